-- Document 01, "one packet a line in hexadecimal, both letter cases": digits, and the text of octets in upper case.
use Rattle.std.specs.Prelude.{Bool, true, cond, ◌&&◌, List, [], ◌∷◌, ℕ, suc, ◌+◌, ◌*◌, ◌-◌, ◌/◌, ◌%◌, leb, ltb}

-- Whether a character lies in a range, its two ends included.
abbrev pub within : ℕ → ℕ → ℕ → Bool
within low high c = leb low c && leb c high

-- The value of a character that is a hexadecimal digit, 0 to 9, A to F or a to f; 16 for one that is none.
unfoldable pub value_of : ℕ → ℕ
value_of c =
    cond (within 0x30 0x39 c) (c - 0x30)
    (cond (within 0x41 0x46 c) (c - 0x41 + 10)
    (cond (within 0x61 0x66 c) (c - 0x61 + 10) 16))

-- Whether a character is a digit.
abbrev pub is_digit_of : ℕ → Bool
is_digit_of c = ltb (value_of c) 16

-- The upper-case digit of a number's low four bits.
unfoldable pub digit_of : ℕ → ℕ
digit_of x = cond (ltb (x % 16) 10) (0x30 + x % 16) (0x41 + (x % 16 - 10))

-- A digit a to f in upper case; any other character as it is.
unfoldable pub upper_of : ℕ → ℕ
upper_of c = cond (within 0x61 0x66 c) (c - 0x20) c

-- A text with its digits in upper case.
unfoldable pub upper_text : List ℕ → List ℕ
upper_text [] = []
upper_text (c ∷ rest) = upper_of c ∷ upper_text rest

-- The text of octets: the two digits of each, the high one first.
unfoldable pub text_of : List ℕ → List ℕ
text_of [] = []
text_of (x ∷ rest) = digit_of (x / 16) ∷ digit_of x ∷ text_of rest

-- Whether every character of a text is a digit.
unfoldable pub all_digits_of : List ℕ → Bool
all_digits_of [] = true
all_digits_of (c ∷ rest) = is_digit_of c && all_digits_of rest

-- The place of the first character of a text that is no digit, from 0; past the last one where all are digits.
unfoldable pub bad_place : List ℕ → ℕ
bad_place [] = 0
bad_place (c ∷ rest) = cond (is_digit_of c) (suc (bad_place rest)) 0

-- The octet of two digits, the high one first; of what is no digit, the low four bits of its value.
abbrev pub octet_of : ℕ → ℕ → ℕ
octet_of high low = value_of high % 16 * 16 + value_of low % 16

-- The octets of a text, two digits each.
unfoldable pub octets_in : List ℕ → List ℕ
octets_in [] = []
octets_in (high ∷ []) = []
octets_in (high ∷ low ∷ rest) = octet_of high low ∷ octets_in rest
