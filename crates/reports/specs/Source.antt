-- Document 01, "Service data" and "Frames due": the source data of each report.
use Rattle.std.specs.Prelude.{List, [], ◌∷◌, ◌++◌, ℕ, take}
use Rattle.octets.specs.Numbers.{octet, octets16, octets32}

-- What (1,1), (1,2) and (1,7) repeat of a TC: its packet ID and sequence control, as they came.
abbrev pub echo_of : List ℕ → List ℕ
echo_of packet = take 4 packet

-- The same of any octets at all: past the end counts as 0.
abbrev pub echoed : List ℕ → List ℕ
echoed packet = octet packet 0 ∷ octet packet 1 ∷ octet packet 2 ∷ octet packet 3 ∷ []

-- What (1,2) adds: the code and the detail.
abbrev pub failure : ℕ → ℕ → List ℕ
failure code detail = octets16 code ++ octets16 detail

-- What stands before the words of (6,6): the memory ID, the octet 1, start and length.
abbrev pub dump_head : ℕ → ℕ → ℕ → List ℕ
dump_head memory start words = memory ∷ 1 ∷ octets32 start ++ octets16 words

-- What (6,10) begins with: the memory ID and N.
abbrev pub check_head : ℕ → ℕ → List ℕ
check_head memory blocks = memory ∷ blocks ∷ []

-- What (6,10) says of a block: start, length and the CRC over its stored octets.
abbrev pub check_entry : ℕ → ℕ → ℕ → List ℕ
check_entry start words crc = octets32 start ++ octets16 words ++ octets16 crc
