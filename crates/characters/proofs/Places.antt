-- The place of the first character that is no digit, and whether there is one.
-- Assumes nothing.
use mathlib.Core.Path.{◌≡◌, refl}
use mathlib.Core.Bool.{true, false}
use mathlib.Core.List.{List, [], ◌∷◌}
use Prim.Native.Nat.{ℕ, suc, ◌+◌, ◌≤◌, ◌<◌}
use native.Mathlib.Omega.{arith}
use lib.ListN.{length}
use borrow.Author.Tests.{lt-ltb, le-ltb}
use Rattle.laws.proofs.Tests.{by-test}
use Rattle.characters.specs.Digits.{value_of, is_digit_of, all_digits_of, bad_place}

-- No character has no place; at one that is no digit it is found, and behind a digit it is one more.
pub place_none : bad_place [] ≡ 0
unfolding bad_place
place_none = refl

pub place_found : (c : ℕ) (s : List ℕ) → 16 ≤ value_of c → bad_place (c ∷ s) ≡ 0
unfolding bad_place
place_found c s large = rw (le-ltb (value_of c) 16 large) refl

pub place_pass : (c : ℕ) (s : List ℕ) → value_of c < 16 → bad_place (c ∷ s) ≡ bad_place s + 1
unfolding bad_place
place_pass c s small = rw (lt-ltb (value_of c) 16 small) (omega arith)

place_digit : (c : ℕ) (s : List ℕ) → is_digit_of c ≡ true → bad_place (c ∷ s) ≡ suc (bad_place s)
unfolding bad_place
place_digit c s t = rw t refl

place_other : (c : ℕ) (s : List ℕ) → is_digit_of c ≡ false → bad_place (c ∷ s) ≡ 0
unfolding bad_place
place_other c s e = rw e refl

-- All are digits just where no such place is found.
pub all_digits : (s : List ℕ) → length s ≤ bad_place s → all_digits_of s ≡ true
unfolding all_digits_of
all_digits [] h = refl
all_digits (c ∷ s) h =
    by-test (is_digit_of c) (λ t. rw t (all_digits s (omega (arith, place_digit c s t)))) (λ e. absurd (omega (arith, place_other c s e)))

pub some_other : (s : List ℕ) → bad_place s < length s → all_digits_of s ≡ false
unfolding all_digits_of
some_other [] h = absurd (omega arith)
some_other (c ∷ s) h =
    by-test (is_digit_of c) (λ t. rw t (some_other s (omega (arith, place_digit c s t)))) (λ e. rw e refl)
