-- Numbers that a reader could stumble over, by computation.
use Rattle.std.specs.Prelude.{◌≡◌, Ok, Err, refl}
use Rattle.words.specs.Ascii.{ascii}
use Rattle.characters.specs.Digits.{value_of}
use Rattle.numerals.specs.declared.NumeralError.TheVariants.{Large, Bad}
use Rattle.numerals.specs.Numbers.{digits_of, said_from, stated_by, numeral_of, decimal_from, decimal_of}

-- Zero alone is a number; a leading zero makes a word none, but behind `0x`.
pub zero_alone : numeral_of (ascii "0") ≡ Ok 0
unfolding numeral_of stated_by digits_of said_from value_of
zero_alone = refl

pub leading_zero : numeral_of (ascii "00001000") ≡ Err Bad
unfolding numeral_of
leading_zero = refl

pub leading_zeros_behind_0x : numeral_of (ascii "0x00001000") ≡ Ok 0x1000
unfolding numeral_of stated_by digits_of said_from value_of
leading_zeros_behind_0x = refl

pub nothing_behind_0x : numeral_of (ascii "0x") ≡ Err Bad
unfolding numeral_of stated_by
nothing_behind_0x = refl

-- 2^32 - 1 is the largest, in both spellings and both letter cases.
pub largest : numeral_of (ascii "4294967295") ≡ Ok 4294967295
unfolding numeral_of stated_by digits_of said_from value_of
largest = refl

pub one_more : numeral_of (ascii "4294967296") ≡ Err Large
unfolding numeral_of stated_by digits_of said_from value_of
one_more = refl

pub largest_hexadecimal : numeral_of (ascii "0xFFFFffff") ≡ Ok 4294967295
unfolding numeral_of stated_by digits_of said_from value_of
largest_hexadecimal = refl

-- Hexadecimal digits are none in a decimal number, nor is a sign.
pub letter_in_decimal : numeral_of (ascii "12a") ≡ Err Bad
unfolding numeral_of stated_by digits_of value_of
letter_in_decimal = refl

-- Printed numbers.
pub prints_zero : decimal_of 0 ≡ ascii "0"
unfolding decimal_of decimal_from
prints_zero = refl

pub prints_largest : decimal_of 18446744073709551615 ≡ ascii "18446744073709551615"
unfolding decimal_of decimal_from
prints_largest = refl
