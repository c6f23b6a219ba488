-- Laws of the number that digits state, read one by one: a number above the largest may be taken for the one above it, and stays too large.
-- Assumes nothing.
use mathlib.Core.Path.{◌≡◌, refl, sym, ap, ◌∙◌}
use mathlib.Core.Bool.{false, cond}
use mathlib.Core.List.{List, [], ◌∷◌}
use Prim.Native.Nat.{ℕ, ◌+◌, ◌*◌, ◌≤◌, ◌<◌, min}
use native.Mathlib.Nat.{le_trans, le-add_right, le-mul_of_pos_right}
use native.Mathlib.Omega.{arith}
use lib.ListN.{length, get_or, drop, drop_of_length-le}
use lib.Dec.{leb}
use borrow.Author.Tests.{lt-ltb, le-ltb, le-leb, lt-leb}
use Rattle.laws.proofs.Lists.{drop_next}
use Rattle.laws.proofs.Order.{by_order}
use Rattle.characters.specs.Digits.{value_of}
use Rattle.std.specs.Prelude.{Result, Ok, Err}
use Rattle.numerals.specs.declared.NumeralError.{NumeralError}
use Rattle.numerals.specs.declared.NumeralError.TheVariants.{Large, Bad}
use Rattle.numerals.specs.declared.Base.{Base}
use Rattle.numerals.specs.declared.Base.TheVariants.{Ten, Sixteen}
use Rattle.numerals.specs.Numbers.{number_most, radix_of, digits_of, said_from, stated_by, is_prefixed, has_leading_zero, numeral_of}

-- A base has a digit.
pub radix_some : (base : Base) → 1 ≤ radix_of base
unfolding radix_of
radix_some Ten = omega arith
radix_some Sixteen = omega arith

-- What tells a number.
abbrev pub told_of : ℕ → Result ℕ NumeralError
told_of n = cond (leb n number_most) (Ok n) (Err Large)

-- The number that digits of a base state behind those of another.
unfoldable pub stated_from : ℕ → ℕ → List ℕ → Result ℕ NumeralError
stated_from base n digits = cond (digits_of base digits) (told_of (said_from base n digits)) (Err Bad)

pub stated_some : (base : ℕ) (digits : List ℕ) → 1 ≤ length digits → stated_from base 0 digits ≡ stated_by base digits
unfolding stated_from stated_by
stated_some base digits h = rw (le-leb 1 (length digits) h) refl

pub stated_none : (base : ℕ) (digits : List ℕ) → length digits ≤ 0 → ◌≡◌ {A = Result ℕ NumeralError} (Err Bad) (stated_by base digits)
unfolding stated_by
stated_none base digits h = rw (lt-leb 1 (length digits) (omega arith)) refl

-- ---- numbers above the largest

told_large : (n : ℕ) → number_most < n → told_of n ≡ Err Large
told_large n h = rw (lt-leb n number_most h) refl

module _ (base : ℕ) (some : 1 ≤ base) where
  -- More digits say no less.
  said_least : (n : ℕ) (digits : List ℕ) → n ≤ said_from base n digits
  unfolding said_from
  said_least n [] = omega arith
  said_least n (c ∷ digits) =
      le_trans (le_trans (le-mul_of_pos_right n some) (le-add_right (n * base) (value_of c))) (said_least (n * base + value_of c) digits)

  told_capped : (n : ℕ) (digits : List ℕ) → told_of (said_from base (min n (number_most + 1)) digits) ≡ told_of (said_from base n digits)
  told_capped n digits =
      let cap : ℕ = min n (number_most + 1) in
      by_order n number_most
      (λ h. let same : cap ≡ n = omega arith in ap (λ (k : ℕ). told_of (said_from base k digits)) same)
      (λ h.
      told_large (said_from base cap digits) (omega (arith, said_least cap digits))
      ∙ sym (told_large (said_from base n digits) (omega (arith, said_least n digits))))

  stated_capped : (n : ℕ) (digits : List ℕ) → stated_from base (min n (number_most + 1)) digits ≡ stated_from base n digits
  unfolding stated_from
  stated_capped n digits = ap (λ (r : Result ℕ NumeralError). cond (digits_of base digits) r (Err Bad)) (told_capped n digits)

-- ---- the walk over the digits, at a place

module _ (base n : ℕ) (s : List ℕ) (i : ℕ) (h : i < length s) where
  here : stated_from base n (drop i s) ≡ stated_from base n (get_or s i 0 ∷ drop (i + 1) s)
  here = ap (λ (r : List ℕ). stated_from base n r) (drop_next s i h)

  pub stated_fail : base ≤ value_of (get_or s i 0) → ◌≡◌ {A = Result ℕ NumeralError} (Err Bad) (stated_from base n (drop i s))
  unfolding stated_from digits_of
  stated_fail large = sym (here ∙ rw (le-ltb (value_of (get_or s i 0)) base large) refl)

  pub stated_pass : {v r : ℕ} → 1 ≤ base → v ≡ value_of (get_or s i 0) → v < base → r ≡ min (n * base + v) (number_most + 1)
      → stated_from base r (drop (i + 1) s) ≡ stated_from base n (drop i s)
  unfolding stated_from digits_of said_from
  stated_pass {v = v} some e small capped =
      ap (λ (k : ℕ). stated_from base k (drop (i + 1) s)) capped
      ∙ stated_capped base some (n * base + v) (drop (i + 1) s)
      ∙ ap (λ (k : ℕ). stated_from base (n * base + k) (drop (i + 1) s)) e
      ∙ sym (here ∙ rw (lt-ltb (value_of (get_or s i 0)) base (omega arith)) refl)

pub stated_end : (base n : ℕ) (s : List ℕ) (i : ℕ) → length s ≤ i → told_of n ≡ stated_from base n (drop i s)
unfolding stated_from digits_of said_from
stated_end base n s i h = rw (drop_of_length-le s h) refl

-- ---- the number that a word states

pub numeral_plain : (word : List ℕ) → is_prefixed word ≡ false → has_leading_zero word ≡ false → stated_by 10 word ≡ numeral_of word
unfolding numeral_of
numeral_plain word p z = rw (p, z) refl
