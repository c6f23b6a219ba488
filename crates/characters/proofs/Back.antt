-- The text of octets is digits, and reads back as those octets.
-- Assumes nothing.
use mathlib.Core.Path.{◌≡◌, refl, sym, ap, ap₂, ◌∙◌}
use mathlib.Core.Bool.{true}
use mathlib.Core.List.{List, [], ◌∷◌, ◌++◌}
use Prim.Native.Nat.{ℕ, zero, suc, ◌+◌, ◌*◌, ◌-◌, ◌/◌, ◌%◌, ◌<◌}
use native.Mathlib.Omega.{arith}
use lib.ListN.{length}
use borrow.Author.Tests.{lt-ltb, le-ltb}
use Rattle.laws.proofs.Tests.{both}
use Rattle.laws.proofs.Order.{by_order}
use Rattle.octets.specs.Numbers.{Octets}
use Rattle.characters.specs.Digits.{value_of, is_digit_of, digit_of, text_of, all_digits_of, octets_in}
use Rattle.characters.proofs.Digits.{inside, above, value_number, value_upper}

-- The value of a digit that stands for a number is the number's low four bits.
pub digit_value : (x : ℕ) → value_of (digit_of x) ≡ x % 16
unfolding digit_of
digit_value x =
    by_order 10 (x % 16)
    (λ h.
    let c : ℕ = 0x41 + (x % 16 - 10) in
    rw (le-ltb (x % 16) 10 h) (sym (value_upper c (above 0x30 0x39 c (omega arith)) (inside 0x41 0x46 c (omega arith) (omega arith))) ∙ omega arith))
    (λ h.
    let c : ℕ = 0x30 + x % 16 in
    rw (lt-ltb (x % 16) 10 h) (sym (value_number c (inside 0x30 0x39 c (omega arith) (omega arith))) ∙ omega arith))

is_digit : (x : ℕ) → is_digit_of (digit_of x) ≡ true
is_digit x = lt-ltb (value_of (digit_of x)) 16 (omega (arith, digit_value x))

-- The text of octets is digits.
pub text_digits : (s : List ℕ) → all_digits_of (text_of s) ≡ true
unfolding all_digits_of text_of
text_digits [] = refl
text_digits (x ∷ s) = rw (is_digit (x / 16), is_digit x) (text_digits s)

-- It reads back as those octets.
pub text_back : (s : List ℕ) → Octets s → octets_in (text_of s) ≡ s
unfolding octets_in text_of
text_back [] h = refl
text_back (x ∷ s) h =
    let small : x < 256 = h 0 in
    let here : value_of (digit_of (x / 16)) % 16 * 16 + value_of (digit_of x) % 16 ≡ x = omega (arith, digit_value (x / 16), digit_value x) in
    ap₂ (λ (y : ℕ) (r : List ℕ). y ∷ r) here (text_back s (λ k. h (suc k)))

-- The octets of a text are octets.
pub in_octets : (s : List ℕ) → Octets (octets_in s)
unfolding octets_in
in_octets [] k = omega arith
in_octets (h ∷ []) k = omega arith
in_octets (h ∷ l ∷ s) zero = omega arith
in_octets (h ∷ l ∷ s) (suc k) = in_octets s k

-- ---- texts one behind another

-- Two texts of digits are one.
pub digits_append : (s t : List ℕ) → all_digits_of s ≡ true → all_digits_of t ≡ true → all_digits_of (s ++ t) ≡ true
unfolding all_digits_of
digits_append [] t h k = k
digits_append (c ∷ s) t h k =
    let parts = both (is_digit_of c) (all_digits_of s) h in
    rw parts.0 (digits_append s t parts.1 k)

-- The octets of two texts, the first of which is even in length, are those of one.
pub octets_append : (s t : List ℕ) → length s % 2 ≡ 0 → octets_in (s ++ t) ≡ octets_in s ++ octets_in t
unfolding octets_in
octets_append [] t h = refl
octets_append (c ∷ []) t h = absurd (omega arith)
octets_append (c ∷ d ∷ s) t h = ap (λ (r : List ℕ). (value_of c % 16 * 16 + value_of d % 16) ∷ r) (octets_append s t (omega arith))
