-- Words that state an area, and words that do not, by computation.
use Rattle.std.specs.Prelude.{◌≡◌, refl, true, false, Result, Ok, Err}
use Prim.Native.String.{String}
use Rattle.characters.specs.Digits.{value_of}
use Rattle.map.specs.declared.Area.{Area}
use Rattle.map.specs.Made.{area_of, area_with}
use Rattle.words.specs.Ascii.{ascii}
use Rattle.words.specs.Words.{words_from, words_of, same_text}
use Rattle.numerals.specs.Numbers.{digits_of, said_from, stated_by, numeral_of}
use Rattle.stating.specs.declared.fault.Fault.{Fault}
use Rattle.stating.specs.declared.fault.Fault.TheVariants.{AreaForm, AreaId, AreaOdd, AreaSize, RightTwice, NumberForm}
use Rattle.stating.specs.Stating.{number_stated, flag_named, flags_from}
use Rattle.arealine.specs.Area.{labelled, first_word, past_size, rights_named, placed, area_stated}

-- On an `unfolding` line it stands for all that its own line names.
unfoldable all : Unit {0}
unfolding words_from same_text value_of digits_of said_from stated_by numeral_of number_stated flag_named flags_from labelled first_word past_size rights_named placed area_stated
all = tt

-- What a text states behind `area`.
abbrev stated : String → Result Area Fault
stated text = area_stated (words_of (ascii text))

-- Document 01's line program: 64 words from address 00001000 on, which stand in the store from its first octet on.
pub line_program : stated "1 start 0x1000 words 64 at 0 load dump check" ≡ Ok (area_of 1 0x1000 64 0)
unfolding all
line_program = refl

-- `at` is an octet of the store, and a word has two. A size may be stated, and a right left out.
pub with_size : stated "255 start 7 words 1 at 6 size 2 dump"
    ≡ Ok (area_with (record { load = false; dump = true; check = false }) 255 7 1 3)
unfolding all
with_size = refl

-- What is odd, too large, or of another size.
pub odd-octet : stated "1 start 0x1000 words 64 at 7" ≡ Err AreaOdd
unfolding all
odd-octet = refl

pub large_id : stated "256 start 0x1000 words 64 at 0" ≡ Err AreaId
unfolding all
large_id = refl

pub four_octets : stated "1 start 0x1000 words 64 at 0 size 4" ≡ Err AreaSize
unfolding all
four_octets = refl

-- A word too many, one too few, a size behind a right, and connection, which is no right.
pub word_too_many : stated "1 start 0x1000 words 64 at 0 load 2" ≡ Err AreaForm
unfolding all
word_too_many = refl

pub word_missing : stated "1 start 0x1000 words 64 at" ≡ Err AreaForm
unfolding all
word_missing = refl

pub size_too_late : stated "1 start 0x1000 words 64 at 0 load size 2" ≡ Err AreaForm
unfolding all
size_too_late = refl

pub no_right : stated "1 start 0x1000 words 64 at 0 connection" ≡ Err AreaForm
unfolding all
no_right = refl

-- The first that is wrong from the left is told: words that stand where `start` should, and not the right named twice.
pub first_from_the_left : stated "1 words 64 start 0x1000 at 7 load load" ≡ Err AreaForm
unfolding all
first_from_the_left = refl

pub right_twice_lem : stated "1 start 0x1000 words 64 at 0 load load" ≡ Err RightTwice
unfolding all
right_twice_lem = refl

pub no_number : stated "1 start 00001000 words 64 at 7 load load" ≡ Err NumberForm
unfolding all
no_number = refl
