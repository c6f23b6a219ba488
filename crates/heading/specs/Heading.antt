-- Document 01, "Refusal numbers in checking order": what checks 1 and 16 ask of a packet's length and header.
use Rattle.std.specs.Prelude.{Bool, ◌&&◌, List, [], ◌∷◌, ℕ, ◌+◌, length, leb, eqb}
use Rattle.octets.specs.Numbers.{octet, word16}
use Rattle.fields.specs.Fields.{packet_id, sequence, header}
use Rattle.fields.specs.declared.PacketId.{PacketId}
use Rattle.fields.specs.declared.Sequence.{Sequence}
use Rattle.fields.specs.declared.Header.{Header}
use Rattle.laws.specs.First.{first_wrong}
use Rattle.tc.specs.Layout.{around, packet_most}

-- The received count is at least 12, at most 248, and the length field plus 7.
unfoldable pub length_right : List ℕ → Bool
length_right p = leb around (length p) && leb (length p) packet_most && eqb (length p) (word16 p 4 + 7)

-- Version, type bit, header flag, sequence flags and PUS version are right, in that order.
abbrev pub header_tests : PacketId → Sequence → Header → List Bool
header_tests id control head =
    eqb id.version 0
    ∷ eqb id.kind 1
    ∷ eqb id.header 1
    ∷ eqb control.flags 3
    ∷ eqb head.version 0
    ∷ []

-- The first wrong of them, counted from 1; 0 where none is.
unfoldable pub first_fault : PacketId → Sequence → Header → ℕ
first_fault id control head = first_wrong (header_tests id control head)

-- That fault in a packet's own header.
unfoldable pub header_fault : List ℕ → ℕ
header_fault p = first_fault (packet_id (word16 p 0)) (sequence (word16 p 2)) (header (octet p 6))
