-- The CRC of document 01 ("error control"): polynomial x^16 + x^12 + x^5 + 1, start all ones, most significant bit first; here as a register of 16 bits that takes the message bit by bit. Document 02, wish 8: from any start.
use Rattle.std.specs.Prelude.{Bool, cond, List, [], ◌∷◌, ℕ, ◌*◌, ◌/◌, ◌%◌, leb, eqb}
use Rattle.std.specs.Bool.{xor}
use Rattle.std.specs.Int.Bits.{bit_xor}

-- The generator's terms below x^16, that is x^12 + x^5 + 1, as a number.
abbrev pub generator : ℕ
generator = 0x1021

-- What the register holds before the first bit of a packet or of a block.
abbrev pub all_ones : ℕ
all_ones = 0xffff

-- Whether a number is odd.
abbrev pub odd : ℕ → Bool
odd x = eqb (x % 2) 1

-- The bits of an octet, the most significant first.
abbrev pub bits_of : ℕ → List Bool
bits_of x =
    odd (x / 128) ∷ odd (x / 64) ∷ odd (x / 32) ∷ odd (x / 16) ∷ odd (x / 8) ∷ odd (x / 4) ∷ odd (x / 2) ∷ odd x ∷ []

-- The register moved up by one place: its top bit leaves, and a 0 enters.
abbrev pub moved : ℕ → ℕ
moved r = r * 2 % 65536

-- The register after one message bit: moved up and, where the bit that leaves differs from the message's, with the generator added.
unfoldable pub take_bit : ℕ → Bool → ℕ
take_bit r b = cond (xor (leb 32768 r) b) (bit_xor (moved r) generator) (moved r)

-- The register after several message bits in turn.
unfoldable pub take_bits : ℕ → List Bool → ℕ
take_bits r [] = r
take_bits r (b ∷ bs) = take_bits (take_bit r b) bs

-- The register after the octets of a list in turn, from what it held before: the CRC that goes on from a value.
unfoldable pub crc_from : ℕ → List ℕ → ℕ
crc_from r [] = r
crc_from r (x ∷ xs) = crc_from (take_bits r (bits_of x)) xs

-- The CRC of a list of octets: the one from all ones.
abbrev pub crc_of : List ℕ → ℕ
crc_of xs = crc_from all_ones xs
