-- Document 01's P1, the four vectors of source document 004's appendix A4.4, and values from other starts, by computation, in both definitions.
use Rattle.std.specs.Prelude.{◌≡◌, refl, List, [], ◌∷◌, map, ℕ}
use Rattle.std.proofs.Math.Bool.{xor}
use Rattle.crc.specs.Register.{take_bit, take_bits, crc_from, crc_of}
use Rattle.crc.specs.Division.{plus, modulo, message, remainder, check_sequence, number_of, sequence_from, sequence_of}

-- The messages: P1's three, then A4.4's other three.
abbrev pub messages : List (List ℕ)
messages =
    [] ∷
    (0x00 ∷ []) ∷
    (0x00 ∷ 0x00 ∷ []) ∷
    (0x00 ∷ 0x00 ∷ 0x00 ∷ []) ∷
    (0xab ∷ 0xcd ∷ 0xef ∷ 0x01 ∷ []) ∷
    (0x14 ∷ 0x56 ∷ 0xf8 ∷ 0x9a ∷ 0x00 ∷ 0x01 ∷ []) ∷ []

-- Their check sequences, as both documents print them.
abbrev pub printed : List ℕ
printed = 0xffff ∷ 0xe1f0 ∷ 0x1d0f ∷ 0xcc9c ∷ 0x04a2 ∷ 0x7fd5 ∷ []

pub by_register : map crc_of messages ≡ printed
unfolding take_bit take_bits crc_from xor
by_register = refl

pub by_division : map sequence_of messages ≡ printed
unfolding plus modulo message remainder check_sequence number_of sequence_of xor
by_division = refl

-- The digits 1 to 9 as characters: what the check values of CRCs are printed for.
abbrev pub nine_digits : List ℕ
nine_digits = 0x31 ∷ 0x32 ∷ 0x33 ∷ 0x34 ∷ 0x35 ∷ 0x36 ∷ 0x37 ∷ 0x38 ∷ 0x39 ∷ []

-- A4.4's three zeros an octet at a time, each from the value before it; then the digits from the starts of three CRCs that have this polynomial and part in the start alone: XMODEM, IBM-3740 and SPI-FUJITSU.
abbrev pub going_on : (ℕ → List ℕ → ℕ) → List ℕ
going_on f =
    f 0xffff (0x00 ∷ []) ∷ f 0xe1f0 (0x00 ∷ []) ∷ f 0x1d0f (0x00 ∷ []) ∷
    f 0x0000 nine_digits ∷ f 0xffff nine_digits ∷ f 0x1d0f nine_digits ∷ []

-- Their values: those of document 01 and A4.4, and the published check values.
abbrev pub published : List ℕ
published = 0xe1f0 ∷ 0x1d0f ∷ 0xcc9c ∷ 0x31c3 ∷ 0x29b1 ∷ 0xe5cc ∷ []

pub from_by_register : going_on crc_from ≡ published
unfolding take_bit take_bits crc_from xor
from_by_register = refl

pub from_by_division : going_on sequence_from ≡ published
unfolding plus modulo message remainder number_of sequence_from xor
from_by_division = refl
