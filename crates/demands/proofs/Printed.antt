-- Lines that a reader could stumble over: the whole output of the line program, by computation over the definitions.
-- Assumes nothing.
use mathlib.Core.Path.{◌≡◌, refl}
use mathlib.Core.List.{[], ◌∷◌}
use Rattle.lines.specs.Feed.{output_of}
use Rattle.lineunit.specs.Unit.{line_profile}
use Rattle.hexline.specs.Whole.{line_program, first}
use Rattle.demands.proofs.Computing.{all}

-- No input gives no output.
pub nothing : output_of (line_program line_profile) first [] ≡ []
unfolding all
nothing = refl

-- A lone newline is an empty line, a packet of no octets: 012A.
pub lone_newline : output_of (line_program line_profile) first (0x0A ∷ []) ≡ 0x30 ∷ 0x31 ∷ 0x32 ∷ 0x41 ∷ 0x0A ∷ []
unfolding all
lone_newline = refl

-- An odd digit count: 0200, also of a last line without its newline.
pub odd_count : output_of (line_program line_profile) first (0x31 ∷ []) ≡ 0x30 ∷ 0x32 ∷ 0x30 ∷ 0x30 ∷ 0x0A ∷ []
unfolding all
odd_count = refl
