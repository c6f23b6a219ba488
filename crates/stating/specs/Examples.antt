-- Words that state flags and octets, and words that do not, by computation.
use Rattle.std.specs.Prelude.{◌≡◌, refl, true, false, Ok, Err, [], ◌∷◌}
use Rattle.laws.specs.Fold.{joined}
use Rattle.characters.specs.Digits.{value_of, all_digits_of, octets_in}
use Rattle.words.specs.Ascii.{ascii}
use Rattle.words.specs.Words.{words_from, words_of, same_text}
use Rattle.numerals.specs.Numbers.{digits_of, said_from, stated_by, numeral_of}
use Rattle.stating.specs.declared.fault.Fault.TheVariants.{PidForm, PidLarge, ServicesForm, ServiceTwice, PutOdd, AreaForm, RightTwice}
use Rattle.map.specs.Made.{all_flags}
use Rattle.stating.specs.Stating.{number_stated, number_value, flag_named, no_flags, flags_from, flags_told, digits_from, digits_told, octets_stated}

-- Services stand in any order, and each at most once.
pub in_any_order : flags_from all_flags ServicesForm ServiceTwice no_flags (words_of (ascii "dump load"))
    ≡ Ok (record { load = true; dump = true; check = false; connection = false })
unfolding words_from same_text flag_named flags_from
in_any_order = refl

pub the_same_again : flags_from all_flags ServicesForm ServiceTwice no_flags (words_of (ascii "load load")) ≡ Err ServiceTwice
unfolding words_from same_text flag_named flags_from
the_same_again = refl

-- What is named before the word at fault is told beside it.
pub named_before : flags_told all_flags no_flags (words_of (ascii "load load dump"))
    ≡ record { load = true; dump = false; check = false; connection = false }
unfolding words_from same_text flag_named flags_told
named_before = refl

-- Connection is a service and no right.
pub no_right : flags_from (record { load = true; dump = true; check = true; connection = false }) AreaForm RightTwice no_flags (words_of (ascii "load connection")) ≡ Err AreaForm
unfolding words_from same_text flag_named flags_from
no_right = refl

-- Octets are two digits each, of either case, and none goes from one word to the next.
pub two_octets : digits_from 0 (words_of (ascii "AB cd")) ≡ Ok 2
unfolding words_from value_of all_digits_of digits_from
two_octets = refl

pub those_octets : octets_stated (words_of (ascii "AB cd")) ≡ 0xAB ∷ 0xCD ∷ []
unfolding words_from value_of octets_in joined
those_octets = refl

pub odd_digits : digits_from 0 (words_of (ascii "ABC D")) ≡ Err PutOdd
unfolding words_from value_of all_digits_of digits_from
odd_digits = refl

-- One octet stands before a word of odd digits.
pub counted_before : digits_told 0 (words_of (ascii "AB C DE")) ≡ 1
unfolding words_from value_of all_digits_of digits_told
counted_before = refl

-- A number has its value above its bound too.
pub above_its_bound : number_stated 255 PidForm PidLarge (words_of (ascii "256")) ≡ Err PidLarge
unfolding words_from value_of digits_of said_from stated_by numeral_of number_stated
above_its_bound = refl

pub its_value : number_value (words_of (ascii "256")) ≡ 256
unfolding words_from value_of digits_of said_from stated_by numeral_of number_value
its_value = refl
