-- Laws of texts in upper case: those of a packet's digits are the text of its octets.
-- Assumes nothing.
use mathlib.Core.Path.{◌≡◌, refl, sym, ap, ap₂, ◌∙◌}
use mathlib.Core.Bool.{true, false}
use mathlib.Core.List.{List, [], ◌∷◌}
use Prim.Native.Nat.{ℕ, zero, suc, ◌+◌, ◌*◌, ◌-◌, ◌/◌, ◌%◌, ◌≤◌, ◌<◌}
use native.Mathlib.Omega.{arith}
use lib.ListN.{length, get_or, set, take}
use borrow.Author.Tests.{lt-ltb, le-ltb, ltb-true}
use Rattle.laws.proofs.Tests.{both}
use Rattle.octets.specs.Copy.{laid}
use Rattle.octets.proofs.Laid.{laid_next}
use Rattle.characters.specs.Digits.{within, value_of, is_digit_of, digit_of, upper_of, upper_text, text_of, all_digits_of, octets_in}
use Rattle.characters.proofs.Digits.{within_bounds, below, value_number, value_upper, value_lower, value_none, by_range}

pub upper_lower : (c : ℕ) → within 0x61 0x66 c ≡ true → c - 0x20 ≡ upper_of c
unfolding upper_of
upper_lower c e = rw e refl

pub upper_other : (c : ℕ) → within 0x61 0x66 c ≡ false → c ≡ upper_of c
unfolding upper_of
upper_other c e = rw e refl

pub upper_length : (s : List ℕ) → length (upper_text s) ≡ length s
unfolding upper_text
upper_length [] = refl
upper_length (c ∷ s) = ap suc (upper_length s)

upper_at : (s : List ℕ) (i : ℕ) → i < length s → get_or (upper_text s) i 0 ≡ upper_of (get_or s i 0)
unfolding upper_text
upper_at [] i h = absurd (omega arith)
upper_at (c ∷ s) zero h = refl
upper_at (c ∷ s) (suc i) h = upper_at s i (omega arith)

-- One character more is laid.
pub upper_next : (d : List ℕ) (at : ℕ) (s : List ℕ) (i : ℕ) → i < length s
    → set (laid d at (take i (upper_text s))) (at + i) (upper_of (get_or s i 0)) ≡ laid d at (take (i + 1) (upper_text s))
upper_next d at s i h =
    ap (λ (c : ℕ). set (laid d at (take i (upper_text s))) (at + i) c) (sym (upper_at s i h))
    ∙ laid_next d at (upper_text s) i (omega (arith, upper_length s))

-- The digit of a number is that of its low four bits.
digit_low : (x y : ℕ) → x % 16 ≡ y % 16 → digit_of x ≡ digit_of y
unfolding digit_of
digit_low x y e = rw e refl

-- The first ten digits are the numbers; behind them come the letters.
pub digit_number : (v : ℕ) → v < 10 → digit_of v ≡ 0x30 + v
unfolding digit_of
digit_number v h = let m : v % 16 ≡ v = omega arith in rw (m, lt-ltb v 10 h) refl

digit_letter : (v : ℕ) → 10 ≤ v → v < 16 → digit_of v ≡ 0x41 + (v - 10)
unfolding digit_of
digit_letter v h l = let m : v % 16 ≡ v = omega arith in rw (m, le-ltb v 10 h) refl

-- A digit in upper case is the digit of its value.
digit_upper : (c : ℕ) → value_of c < 16 → digit_of (value_of c) ≡ upper_of c
digit_upper c d =
    by_range c
    (λ t.
    let b = within_bounds 0x30 0x39 c t in
    ap digit_of (sym (value_number c t)) ∙ digit_number (c - 0x30) (omega arith) ∙ omega arith ∙ upper_other c (below 0x61 0x66 c (omega arith)))
    (λ n t.
    let b = within_bounds 0x41 0x46 c t in
    ap digit_of (sym (value_upper c n t)) ∙ digit_letter (c - 0x41 + 10) (omega arith) (omega arith) ∙ omega arith ∙ upper_other c (below 0x61 0x66 c (omega arith)))
    (λ n u t.
    let b = within_bounds 0x61 0x66 c t in
    ap digit_of (sym (value_lower c n u t)) ∙ digit_letter (c - 0x61 + 10) (omega arith) (omega arith) ∙ omega arith ∙ upper_lower c t)
    (λ n u e. absurd (omega (arith, value_none c n u e)))

-- The digits of a text in upper case are the text of its octets.
pub upper_text_lem : (s : List ℕ) → all_digits_of s ≡ true → length s % 2 ≡ 0 → upper_text s ≡ text_of (octets_in s)
unfolding upper_text text_of octets_in all_digits_of
upper_text_lem [] d even = refl
upper_text_lem (h ∷ []) d even = absurd (omega arith)
upper_text_lem (h ∷ l ∷ s) d even =
    let first = both (is_digit_of h) (all_digits_of (l ∷ s)) d in
    let second = both (is_digit_of l) (all_digits_of s) first.1 in
    let x : ℕ = value_of h % 16 * 16 + value_of l % 16 in
    let high : upper_of h ≡ digit_of (x / 16) = sym (digit_low (x / 16) (value_of h) (omega arith) ∙ digit_upper h (ltb-true (value_of h) 16 first.0)) in
    let low : upper_of l ≡ digit_of x = sym (digit_low x (value_of l) (omega arith) ∙ digit_upper l (ltb-true (value_of l) 16 second.0)) in
    ap₂ (λ (c : ℕ) (r : List ℕ). c ∷ r) high (ap₂ (λ (c : ℕ) (r : List ℕ). c ∷ r) low (upper_text_lem s second.1 (omega arith)))
