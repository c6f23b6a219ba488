-- The frames of document 01's example, "The line program": PID 5 and time zero throughout.
use Rattle.std.specs.Prelude.{◌≡◌, refl, List, [], ◌∷◌, ◌++◌, ℕ}
use Rattle.tm.specs.declared.Stamp.{Stamp}
use Rattle.counts.specs.Counts.{category_of}
use Rattle.tm.specs.Frame.{head_of, frame_of}
use Rattle.reports.specs.Source.{failure}

-- What stands before the source data of a frame with that count, type and subtype.
abbrev pub stamp_of : ℕ → ℕ → ℕ → Stamp
stamp_of count kind subtype = record { pid = 5; count = count; time = 0 ∷ 0 ∷ 0 ∷ 0 ∷ 0 ∷ 0 ∷ []; kind = kind; subtype = subtype }

-- The first four octets of both TCs: 185CC000.
abbrev pub echo : List ℕ
echo = 0x18 ∷ 0x5C ∷ 0xC0 ∷ 0x00 ∷ []

-- 0851C000000D00000000000000010100185CC000
pub acceptance : frame_of (stamp_of 0 1 1) echo
    ≡ 0x08 ∷ 0x51 ∷ 0xC0 ∷ 0x00 ∷ 0x00 ∷ 0x0D ∷ 0 ∷ 0 ∷ 0 ∷ 0 ∷ 0 ∷ 0 ∷ 0x00 ∷ 0x01 ∷ 0x01 ∷ 0x00 ∷ 0x18 ∷ 0x5C ∷ 0xC0 ∷ 0x00 ∷ []
unfolding frame_of head_of category_of
acceptance = refl

-- 0859C000000900000000000000110200
pub connection : frame_of (stamp_of 0 17 2) []
    ≡ 0x08 ∷ 0x59 ∷ 0xC0 ∷ 0x00 ∷ 0x00 ∷ 0x09 ∷ 0 ∷ 0 ∷ 0 ∷ 0 ∷ 0 ∷ 0 ∷ 0x00 ∷ 0x11 ∷ 0x02 ∷ 0x00 ∷ []
unfolding frame_of head_of category_of
connection = refl

-- 0851C001000D00000000000000010700185CC000
pub completion : frame_of (stamp_of 1 1 7) echo
    ≡ 0x08 ∷ 0x51 ∷ 0xC0 ∷ 0x01 ∷ 0x00 ∷ 0x0D ∷ 0 ∷ 0 ∷ 0 ∷ 0 ∷ 0 ∷ 0 ∷ 0x00 ∷ 0x01 ∷ 0x07 ∷ 0x00 ∷ 0x18 ∷ 0x5C ∷ 0xC0 ∷ 0x00 ∷ []
unfolding frame_of head_of category_of
completion = refl

-- 0851C002001100000000000000010200185CC00000020167
pub refused : frame_of (stamp_of 2 1 2) (echo ++ failure 2 0x0167)
    ≡ 0x08 ∷ 0x51 ∷ 0xC0 ∷ 0x02 ∷ 0x00 ∷ 0x11 ∷ 0 ∷ 0 ∷ 0 ∷ 0 ∷ 0 ∷ 0 ∷ 0x00 ∷ 0x01 ∷ 0x02 ∷ 0x00 ∷ 0x18 ∷ 0x5C ∷ 0xC0 ∷ 0x00 ∷ 0x00 ∷ 0x02 ∷ 0x01 ∷ 0x67 ∷ []
unfolding frame_of head_of category_of
refused = refl
