-- Laws of how many characters stand at the front of a text: its blanks, and the characters of a word.
-- Assumes nothing.
use mathlib.Core.Path.{◌≡◌, refl}
use mathlib.Core.Bool.{true, false, ◌||◌}
use mathlib.Core.List.{List, [], ◌∷◌}
use Prim.Native.Nat.{ℕ, ◌+◌, ◌≤◌}
use native.Mathlib.Omega.{arith}
use lib.ListN.{length, drop}
use lib.Dec.{eqb}
use Rattle.laws.proofs.Tests.{by-test}
use Rattle.words.specs.Words.{is_blank, hash, blanks_in, plain_in}

-- ---- one character

pub blanks_none : blanks_in [] ≡ 0
unfolding blanks_in
blanks_none = refl

pub blanks_stop : (c : ℕ) (s : List ℕ) → is_blank c ≡ false → blanks_in (c ∷ s) ≡ 0
unfolding blanks_in
blanks_stop c s e = rw e refl

pub blanks_pass : (c : ℕ) (s : List ℕ) → is_blank c ≡ true → blanks_in (c ∷ s) ≡ blanks_in s + 1
unfolding blanks_in
blanks_pass c s t = rw t (omega arith)

pub plain_none : plain_in [] ≡ 0
unfolding plain_in
plain_none = refl

pub plain_stop : (c : ℕ) (s : List ℕ) → eqb c hash || is_blank c ≡ true → plain_in (c ∷ s) ≡ 0
unfolding plain_in
plain_stop c s t = rw t refl

pub plain_pass : (c : ℕ) (s : List ℕ) → eqb c hash || is_blank c ≡ false → plain_in (c ∷ s) ≡ plain_in s + 1
unfolding plain_in
plain_pass c s e = rw e (omega arith)

-- ---- all of them

pub blanks_most : (s : List ℕ) → blanks_in s ≤ length s
unfolding blanks_in
blanks_most [] = omega arith
blanks_most (c ∷ s) = by-test (is_blank c) (λ t. rw t (omega (arith, blanks_most s))) (λ e. rw e (omega arith))

pub plain_most : (s : List ℕ) → plain_in s ≤ length s
unfolding plain_in
plain_most [] = omega arith
plain_most (c ∷ s) = by-test (eqb c hash || is_blank c) (λ t. rw t (omega arith)) (λ e. rw e (omega (arith, plain_most s)))

-- Behind the blanks none is left.
pub blanks_left : (s : List ℕ) → blanks_in (drop (blanks_in s) s) ≡ 0
unfolding blanks_in
blanks_left [] = refl
blanks_left (c ∷ s) = by-test (is_blank c) (λ t. rw t (blanks_left s)) (λ e. rw (e, e) refl)
