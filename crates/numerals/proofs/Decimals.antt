-- Laws of decimal digits: how many a number has, and how they are added to a text.
-- Assumes nothing.
use mathlib.Core.Path.{◌≡◌, refl, ap, subst, ◌∙◌}
use mathlib.Core.List.{List, [], ◌∷◌, ◌++◌}
use Prim.Native.Nat.{ℕ, zero, suc, ◌+◌, ◌-◌, ◌/◌, ◌%◌, ◌≤◌, ◌<◌, min}
use native.Mathlib.Omega.{arith}
use lib.ListN.{length, length-append}
use lib.Dec.{ltb}
use borrow.Author.Tests.{lt-ltb, le-ltb}
use Rattle.laws.proofs.Tests.{by-test}
use Rattle.saying.specs.Text.{Says}
use Rattle.saying.proofs.Saying.{says_none, says_append}
use Rattle.numerals.specs.Numbers.{decimal_from, decimal_of}

-- ---- of how many digits

most_from : (k n : ℕ) → length (decimal_from k n) ≤ k
unfolding decimal_from
most_from zero n = omega arith
most_from (suc k) n =
    by-test (ltb n 10)
    (λ t. rw t (omega arith))
    (λ e. rw e (omega (arith, most_from k (n / 10), length-append (decimal_from k (n / 10)) ((0x30 + n % 10) ∷ []))))

-- A number of 64 bits has at most 20 digits, and at least one.
pub decimal_most : (n : ℕ) → length (decimal_of n) ≤ 20
unfolding decimal_of
decimal_most n = most_from 20 n

pub some_from : (k n : ℕ) → 1 ≤ length (decimal_from (suc k) n)
unfolding decimal_from
some_from k n =
    by-test (ltb n 10)
    (λ t. rw t (omega arith))
    (λ e. rw e (omega (arith, length-append (decimal_from k (n / 10)) ((0x30 + n % 10) ∷ []))))

pub decimal_some : (n : ℕ) → 1 ≤ length (decimal_of n)
unfolding decimal_of
decimal_some n = some_from 19 n

-- ---- added to a text

-- So many digits: none, the only one, or the last and those before it.
no_digits : (count n : ℕ) → count ≡ 0 → [] ≡ decimal_from count n
unfolding decimal_from
no_digits count n e = rw e refl

one_digit : (count n : ℕ) → (count ≡ 0 → ⊥) → n < 10 → (0x30 + n % 10) ∷ [] ≡ decimal_from count n
unfolding decimal_from
one_digit zero n some h = absurd (some refl)
one_digit (suc k) n some h = let same : n % 10 ≡ n = omega arith in rw (lt-ltb n 10 h, same) refl

more_digits : (count n : ℕ) → (count ≡ 0 → ⊥) → 10 ≤ n → decimal_from (count - 1) (n / 10) ++ (0x30 + n % 10) ∷ [] ≡ decimal_from count n
unfolding decimal_from
more_digits zero n some h = absurd (some refl)
more_digits (suc k) n some h = let before : suc k - 1 ≡ k = omega arith in rw (le-ltb n 10 h, before) refl

says : (count n : ℕ) {s : List ℕ} {at r : ℕ} {d d' : List ℕ} → s ≡ decimal_from count n → Says s at d r d' → Says (decimal_from count n) at d r d'
says count n {at = at} {r = r} {d = d} {d' = d'} e h = subst (λ (s : List ℕ). Says s at d r d') e h

pub says_no_digits : (count n : ℕ) {at r : ℕ} {d : List ℕ} → count ≡ 0 → r ≡ min at (length d + 1) → Says (decimal_from count n) at d r d
says_no_digits count n none e = says count n (no_digits count n none) (says_none e)

pub says_one_digit : (count n : ℕ) {c at r : ℕ} {d d' : List ℕ} → (count ≡ 0 → ⊥) → n < 10 → c ≡ 0x30 + n % 10
    → Says (c ∷ []) at d r d' → Says (decimal_from count n) at d r d'
says_one_digit count n some h e put = says count n (ap (λ (x : ℕ). x ∷ []) e ∙ one_digit count n some h) put

pub says_more_digits : (count n : ℕ) {c at r₁ r₂ : ℕ} {d d₁ d₂ : List ℕ} → (count ≡ 0 → ⊥) → 10 ≤ n → c ≡ 0x30 + n % 10
    → Says (decimal_from (count - 1) (n / 10)) at d r₁ d₁ → Says (c ∷ []) r₁ d₁ r₂ d₂ → Says (decimal_from count n) at d r₂ d₂
says_more_digits count n some h e front put =
    says count n (ap (λ (x : ℕ). decimal_from (count - 1) (n / 10) ++ x ∷ []) e ∙ more_digits count n some h) (says_append front put)
