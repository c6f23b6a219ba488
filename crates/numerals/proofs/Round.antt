-- A number that is printed is read back: its decimal digits say it, and state it where it is no larger than a word may state.
-- Assumes nothing.
use mathlib.Core.Path.{◌≡◌, refl, sym, ap, ◌∙◌}
use mathlib.Core.Bool.{true, false}
use mathlib.Core.List.{List, [], ◌∷◌, ◌++◌}
use Prim.Native.Nat.{ℕ, zero, suc, ◌+◌, ◌*◌, ◌/◌, ◌%◌, ◌^◌, ◌≤◌, ◌<◌}
use native.Mathlib.Nat.{pow-zero, pow-suc}
use native.Mathlib.Omega.{arith}
use lib.ListN.{length, get_or-append}
use lib.Dec.{eqb, leb, ltb}
use borrow.Author.Tests.{lt-ltb, le-leb, ne_eqb, ltb-true, ltb-false}
use Rattle.laws.proofs.Order.{by_order}
use Rattle.laws.proofs.Tests.{by-test, both}
use Rattle.octets.specs.Numbers.{octet}
use Rattle.characters.specs.Digits.{value_of}
use Rattle.characters.proofs.Back.{digit_value}
use Rattle.characters.proofs.Capitals.{digit_number}
use Rattle.std.specs.Prelude.{Ok}
use Rattle.numerals.specs.Numbers.{number_most, digits_of, said_from, stated_by, has_leading_zero, numeral_of, decimal_from, decimal_of}
use Rattle.numerals.proofs.Reading.{numeral_plain}
use Rattle.numerals.proofs.Decimals.{some_from, decimal_some}

-- ---- digits behind other digits

said_append : (base n : ℕ) (s t : List ℕ) → said_from base n (s ++ t) ≡ said_from base (said_from base n s) t
unfolding said_from
said_append base n [] t = refl
said_append base n (c ∷ s) t = said_append base (n * base + value_of c) s t

digits_append : (base : ℕ) (s t : List ℕ) → digits_of base s ≡ true → digits_of base t ≡ true → digits_of base (s ++ t) ≡ true
unfolding digits_of
digits_append base [] t h k = k
digits_append base (c ∷ s) t h k =
    let halves : (ltb (value_of c) base ≡ true) × (digits_of base s ≡ true) = both (ltb (value_of c) base) (digits_of base s) h in
    rw halves.0 (digits_append base s t halves.1 k)

-- ---- one decimal digit

module _ (d : ℕ) (h : d < 10) where
  said_value : value_of (0x30 + d) ≡ d
  said_value = ap value_of (sym (digit_number d h)) ∙ digit_value d ∙ omega arith

  digit_digits : digits_of 10 ((0x30 + d) ∷ []) ≡ true
  unfolding digits_of
  digit_digits = rw (said_value, lt-ltb d 10 h) refl

  digit_said : (n : ℕ) → said_from 10 n ((0x30 + d) ∷ []) ≡ n * 10 + d
  unfolding said_from
  digit_said n = ap (λ (v : ℕ). n * 10 + v) said_value

-- ---- all of them

from_digits : (k n : ℕ) → digits_of 10 (decimal_from k n) ≡ true
unfolding decimal_from digits_of
from_digits zero n = refl
from_digits (suc k) n =
    by-test (ltb n 10)
    (λ t. rw t (digit_digits n (ltb-true n 10 t)))
    (λ e. rw e (digits_append 10 (decimal_from k (n / 10)) ((0x30 + n % 10) ∷ []) (from_digits k (n / 10)) (digit_digits (n % 10) (omega arith))))

-- All but the last digit of a number that has no more than so many.
fewer : (k n : ℕ) → n < 10 ^ suc k → n / 10 < 10 ^ k
fewer k n h = omega (arith, pow-suc 10 k)

from_said : (k n : ℕ) → n < 10 ^ k → said_from 10 0 (decimal_from k n) ≡ n
unfolding decimal_from said_from
from_said zero n h = omega (arith, pow-zero 10)
from_said (suc k) n h =
    by-test (ltb n 10)
    (λ t. rw t (digit_said n (ltb-true n 10 t) 0 ∙ omega arith))
    (λ e.
    rw e
    (said_append 10 0 (decimal_from k (n / 10)) ((0x30 + n % 10) ∷ [])
    ∙ digit_said (n % 10) (omega arith) (said_from 10 0 (decimal_from k (n / 10)))
    ∙ omega (arith, from_said k (n / 10) (fewer k n h))))

from_some : (k n : ℕ) → 1 ≤ n → n < 10 ^ k → 1 ≤ length (decimal_from k n)
from_some zero n some h = absurd (omega (arith, pow-zero 10))
from_some (suc k) n some h = some_from k n

-- The first digit is no zero.
from_first : (k n : ℕ) → 1 ≤ n → n < 10 ^ k → octet (decimal_from k n) 0 ≡ 0x30 → ⊥
unfolding decimal_from
from_first zero n some h = λ e. omega (arith, pow-zero 10)
from_first (suc k) n some h =
    by-test (ltb n 10)
    (λ t. rw t (λ e. omega arith))
    (λ e.
    let large : 10 ≤ n = ltb-false n 10 e in
    let front : List ℕ = decimal_from k (n / 10) in
    rw (e, get_or-append front ((0x30 + n % 10) ∷ []) 0 0 (from_some k (n / 10) (omega arith) (fewer k n h)))
    (from_first k (n / 10) (omega arith) (fewer k n h)))

-- ---- what callers use

-- The decimal digits of a number of 64 bits say that number: none is cut.
pub decimal_said : (n : ℕ) → n < 2 ^ 64 → said_from 10 0 (decimal_of n) ≡ n
unfolding decimal_of
decimal_said n h = from_said 20 n (omega arith)

-- They are one digit, or begin with no zero.
decimal_plain : (n : ℕ) → n < 2 ^ 64 → has_leading_zero (decimal_of n) ≡ false
unfolding decimal_of decimal_from
decimal_plain n h =
    by_order 10 n
    (λ large.
    let other : eqb (octet (decimal_from 20 n) 0) 0x30 ≡ false = ne_eqb (octet (decimal_from 20 n) 0) 0x30 (from_first 20 n (omega arith) (omega arith)) in
    by-test (leb 2 (length (decimal_from 20 n))) (λ t. rw t other) (λ e. rw e refl))
    (λ small. rw (lt-ltb n 10 small) refl)

-- A number that is printed is read back.
pub decimal_read : (n : ℕ) → n ≤ number_most → numeral_of (decimal_of n) ≡ Ok n
unfolding stated_by decimal_of
decimal_read n h =
    let plain : has_leading_zero (decimal_of n) ≡ false = decimal_plain n (omega arith) in
    sym (numeral_plain (decimal_of n) (rw plain refl) plain)
    ∙ rw (le-leb 1 (length (decimal_of n)) (decimal_some n), from_digits 20 n, decimal_said n (omega arith), le-leb n number_most h) refl
