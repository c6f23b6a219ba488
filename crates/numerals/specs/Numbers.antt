-- docs/UNITS.md, "Lines, words and numbers": the number that a word states, and the decimal digits of a number.
use Rattle.std.specs.Prelude.{Bool, true, cond, ◌&&◌, Result, Ok, Err, List, [], ◌∷◌, ◌++◌, ℕ, zero, suc, ◌+◌, ◌*◌, ◌/◌, ◌%◌, length, drop, eqb, leb, ltb}
use Rattle.octets.specs.Numbers.{octet}
use Rattle.characters.specs.Digits.{value_of}
use Rattle.numerals.specs.declared.NumeralError.{NumeralError}
use Rattle.numerals.specs.declared.NumeralError.TheVariants.{Large, Bad}
use Rattle.numerals.specs.declared.Base.{Base}
use Rattle.numerals.specs.declared.Base.TheVariants.{Ten, Sixteen}

-- The largest number.
abbrev pub number_most : ℕ
number_most = 4294967295

-- How many digits a base has.
unfoldable pub radix_of : Base → ℕ
radix_of Ten = 10
radix_of Sixteen = 16

-- Whether every character of a text is a digit of a base.
unfoldable pub digits_of : ℕ → List ℕ → Bool
digits_of base [] = true
digits_of base (c ∷ rest) = ltb (value_of c) base && digits_of base rest

-- The number that digits of a base say behind those of another.
unfoldable pub said_from : ℕ → ℕ → List ℕ → ℕ
said_from base n [] = n
said_from base n (c ∷ rest) = said_from base (n * base + value_of c) rest

-- The number that one or more digits of a base state.
unfoldable pub stated_by : ℕ → List ℕ → Result ℕ NumeralError
stated_by base digits =
    cond (leb 1 (length digits) && digits_of base digits)
    (cond (leb (said_from base 0 digits) number_most) (Ok (said_from base 0 digits)) (Err Large))
    (Err Bad)

-- A word begins with `0x`, or with a zero that is not all of it.
abbrev pub is_prefixed : List ℕ → Bool
is_prefixed word = leb 2 (length word) && eqb (octet word 0) 0x30 && eqb (octet word 1) 0x78

abbrev pub has_leading_zero : List ℕ → Bool
has_leading_zero word = leb 2 (length word) && eqb (octet word 0) 0x30

-- The number that a word states: `0x` and hexadecimal digits, or decimal digits without a leading zero.
unfoldable pub numeral_of : List ℕ → Result ℕ NumeralError
numeral_of word =
    cond (is_prefixed word) (stated_by 16 (drop 2 word))
    (cond (has_leading_zero word) (Err Bad) (stated_by 10 word))

-- The most digits of a number of 64 bits.
abbrev pub decimal_most : ℕ
decimal_most = 20

-- The decimal digits of a number, at most so many of them, the last ones.
unfoldable pub decimal_from : ℕ → ℕ → List ℕ
decimal_from zero n = []
decimal_from (suc k) n = cond (ltb n 10) ((0x30 + n) ∷ []) (decimal_from k (n / 10) ++ (0x30 + n % 10) ∷ [])

-- The decimal digits of a number of 64 bits, without a leading zero.
unfoldable pub decimal_of : ℕ → List ℕ
decimal_of n = decimal_from decimal_most n
