-- Document 02, wish 3, of any reader: "the flag is examined and check 2 uses the method it selects [..]; any other two octets are wrong, 00 for FF too". What is right is said by what each method is for.
use Rattle.std.specs.Prelude.{◌≡◌, true, List, [], ◌∷◌, ℕ, ◌+◌, ◌-◌, length}
use Rattle.octets.specs.Numbers.{Octets, octet, word16}
use Rattle.crc.specs.Register.{crc_of}
use Rattle.crc.specs.Division.{sequence_of}
use Rattle.iso.specs.Closing.{BothZero, NoZero}
use Rattle.tc.specs.declared.Method.{Method}
use Rattle.tc.specs.declared.Method.TheVariants.{Iso, Crc}
use Rattle.tc.specs.Layout.{method_of, covered, fields_of}
use Rattle.heading.specs.Heading.{length_right}
use Rattle.demands.specs.Packets.{Reader}
use Rattle.demands.specs.Refusing.{Given}

-- ---- the rule

-- The ISO checksum of a packet is right: neither of its last two octets is 0, and over the whole packet both sums are 0 modulo 255.
pub record Summed (p : List ℕ) : Type 0 where
  pub first : NoZero (octet p (length p - 2))
  pub second : NoZero (octet p (length p - 2 + 1))
  pub sums : BothZero p

-- The error control of a packet is right by a method: by the CRC, where it ends in the remainder that the division of its other octets leaves.
abbrev pub RightBy : Method → List ℕ → Type 0
RightBy Iso p = Summed p
RightBy Crc p = word16 p (length p - 2) ≡ sequence_of (covered p)

-- By the method that its own flag selects.
abbrev pub Right : List ℕ → Type 0
Right p = RightBy (method_of (fields_of p).checksum) p

-- The demand of a reader, of a packet that passes check 1: it is refused by 2 where its error control is not right, and only there.
pub record ByMethod (read : Reader) : Type 0 where
  pub only : (p : List ℕ) → Octets p → length_right p ≡ true → Right p → Given 2 (read p).verdict → ⊥
  pub else_right : (p : List ℕ) → Octets p → length_right p ≡ true → (Given 2 (read p).verdict → ⊥) → Right p

-- ---- wrong readers

-- Takes the CRC whatever the flag is: of the packets that pass check 1, those that end in it alone are not refused by 2.
abbrev pub IgnoresFlag : Reader → Type 0
IgnoresFlag read = (p : List ℕ) → length_right p ≡ true → (Given 2 (read p).verdict → ⊥) → word16 p (length p - 2) ≡ crc_of (covered p)

-- With flag 0 it asks for sums of 0 and for nothing else, so that a 00 passes for FF.
abbrev pub LetsZeroPass : Reader → Type 0
LetsZeroPass read = (p : List ℕ) → (fields_of p).checksum ≡ 0 → BothZero p → Given 2 (read p).verdict → ⊥

-- ---- examples

-- The connection test of document 01's first line, but with checksum flag 0, a count of one octet, and two octets of error control.
abbrev pub connection : ℕ → ℕ → ℕ → List ℕ
connection count a b = 0x18 ∷ 0x5C ∷ 0xC0 ∷ count ∷ 0x00 ∷ 0x05 ∷ 0x09 ∷ 0x11 ∷ 0x01 ∷ 0x00 ∷ a ∷ b ∷ []

-- With its ISO checksum, and with its CRC; with count 64, whose checksum has an FF in its first octet, and with count 231, where it has one in the second: each as it is, and with 00 in the place of the FF.
abbrev pub packets : List (List ℕ)
packets =
    connection 0 0x02 0xA8 ∷ connection 0 0x1A 0xC0
    ∷ connection 64 0xFF 0x6A ∷ connection 64 0x00 0x6A
    ∷ connection 231 0xC2 0xFF ∷ connection 231 0xC2 0x00
    ∷ []

-- What the line program tells of each: a refusal's number and detail, and nothing where it accepts.
abbrev pub verdicts : List (List ℕ)
verdicts = [] ∷ (2 ∷ 0x02A8 ∷ []) ∷ [] ∷ (2 ∷ 0xFF6A ∷ []) ∷ [] ∷ (2 ∷ 0xC2FF ∷ []) ∷ []
