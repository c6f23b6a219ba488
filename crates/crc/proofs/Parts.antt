-- Octets that come in parts: the one law, that no other function meets it, and wrong ones that do not.
-- Assumes nothing.
use mathlib.Core.Path.{◌≡◌, refl, sym, ap, ◌∙◌}
use mathlib.Core.Bool.{xor}
use mathlib.Core.List.{List, [], ◌∷◌, append-nil}
use Prim.Native.Nat.{ℕ, ◌<◌}
use native.Mathlib.Omega.{arith}
use Rattle.laws.specs.Fold.{reached, joined}
use Rattle.crc.specs.Register.{take_bit, take_bits, crc_from}
use Rattle.crc.specs.Division.{sequence_from}
use Rattle.crc.specs.Parts.{TakesParts, IgnoresStart, Complements, StartsAnew}
use Rattle.crc.proofs.Laws.{crc_from-append}
use Rattle.crc.proofs.Division.{from_is_division}

-- The parts in turn give the CRC of the whole.
pub parts_whole : (start : ℕ) (parts : List (List ℕ)) → reached crc_from start parts ≡ crc_from start (joined parts)
unfolding reached joined crc_from
parts_whole start [] = refl
parts_whole start (part ∷ rest) = parts_whole (crc_from start part) rest ∙ sym (crc_from-append start part (joined rest))

pub takes-parts : TakesParts crc_from
takes-parts start parts h = parts_whole start parts ∙ from_is_division start (joined parts) h

module _ (f : ℕ → List ℕ → ℕ) (law : TakesParts f) where
  -- Whatever meets the law is that CRC, from every start of sixteen bits.
  pub no_other : (start : ℕ) (xs : List ℕ) → start < 65536 → f start xs ≡ crc_from start xs
  unfolding reached joined
  no_other start xs h =
      law start (xs ∷ []) h ∙ ap (sequence_from start) (append-nil xs) ∙ sym (from_is_division start xs h)

  -- A zero octet leaves a register of 0 as it is, and one of 1 with another value.
  pub ignoring_fails : IgnoresStart f → ⊥
  unfolding take_bit take_bits crc_from xor
  ignoring_fails same = absurd (omega (arith, no_other 0 (0 ∷ []) (omega arith), no_other 1 (0 ∷ []) (omega arith), same 0 1 0 []))

  -- No number is its own complement.
  pub complementing_fails : Complements f → ⊥
  complementing_fails c = absurd (omega (arith, no_other 0 (0 ∷ []) (omega arith), c 0 0 []))

  -- No octets leave a register of 0 as it is.
  pub anew_fails : StartsAnew f → ⊥
  unfolding crc_from
  anew_fails anew = absurd (omega (arith, no_other 0 [] (omega arith), anew 0))
