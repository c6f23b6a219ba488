-- Why a line is refused.
-- Assumes nothing.
use mathlib.Core.Path.{◌≡◌, refl}
use mathlib.Core.List.{List}
use Prim.Native.Nat.{ℕ, ◌+◌, ◌≤◌, ◌<◌}
use native.Mathlib.Omega.{arith}
use lib.ListN.{length, get_or}
use Rattle.characters.specs.Digits.{bad_place}
use Rattle.characters.proofs.Places.{all_digits, some_other}
use Rattle.packline.specs.Record.{halt_of}
use Rattle.packline.specs.declared.Halt.TheVariants.{Character, Odd}

pub halt_odd_lem : (s : List ℕ) (at : ℕ) → at ≡ bad_place s → length s ≤ at → Odd ≡ halt_of s
unfolding halt_of
halt_odd_lem s at e h = rw (all_digits s (omega (arith, e))) refl

pub halt_character : (s : List ℕ) (at : ℕ) → at ≡ bad_place s → at < length s → Character (at + 1) (get_or s at 0) ≡ halt_of s
unfolding halt_of
halt_character s at e h = rw (some_other s (omega (arith, e)), e) refl
