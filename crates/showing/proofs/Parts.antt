-- What D prints of an image that comes in parts.
-- Assumes nothing.
use mathlib.Core.Path.{◌≡◌, sym, ap, ap₂, ◌∙◌}
use mathlib.Core.List.{List, [], ◌++◌}
use Prim.Native.Nat.{ℕ, ◌-◌}
use native.Mathlib.Omega.{arith}
use lib.ListN.{length}
use lib.Seq.{take_all}
use Rattle.laws.specs.Fold.{reached, joined}
use Rattle.octets.specs.Numbers.{octets16}
use Rattle.octets.specs.Copy.{between}
use Rattle.octets.proofs.Words.{word16_behind}
use Rattle.octets.proofs.Between.{between-eq}
use Rattle.crc.specs.Register.{all_ones, crc_from}
use Rattle.crc.proofs.Laws.{crc_from-append}
use Rattle.crc.proofs.Parts.{parts_whole}
use Rattle.commands.specs.Form.{start_octets}
use Rattle.saying.specs.Text.{line_of}
use Rattle.showing.specs.Shows.{value_text, control_text, going_on_text}

behind_value : (value : ℕ) (part : List ℕ) → between start_octets (length (octets16 value ++ part)) (octets16 value ++ part) ≡ part
behind_value value part =
    between-eq start_octets (length (octets16 value ++ part)) (octets16 value ++ part) (omega arith) (omega arith)
    ∙ take_all (length (octets16 value ++ part) - start_octets) part (omega arith)

-- A value and a part behind it: D goes on from that value over that part, and from FFFF it prints what C does.
pub goes_on : (value : ℕ) (part : List ℕ) → going_on_text (octets16 value ++ part) ≡ value_text value part
goes_on value part = ap₂ value_text (word16_behind [] value part) (behind_value value part)

-- The value that the parts before it came to, and the last part behind it: D prints what C does for the whole.
pub last_whole : (parts : List (List ℕ)) (part : List ℕ) → going_on_text (octets16 (reached crc_from all_ones parts) ++ part) ≡ control_text (joined parts ++ part)
last_whole parts part =
    goes_on (reached crc_from all_ones parts) part
    ∙ ap (λ (value : ℕ). value_text value part) (parts_whole all_ones parts)
    ∙ ap (λ (value : ℕ). line_of (octets16 value)) (sym (crc_from-append all_ones (joined parts) part))
