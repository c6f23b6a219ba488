-- Rows of a table, and whole lines, by computation.
use Rattle.std.specs.Prelude.{◌≡◌, refl, []}
use Rattle.characters.specs.Digits.{digit_of, text_of}
use Rattle.words.specs.Ascii.{ascii}
use Rattle.numerals.specs.Numbers.{decimal_from, decimal_of}
use Rattle.stating.specs.declared.fault.Fault.TheVariants.{AreaForm, NoStore}
use Rattle.packline.specs.declared.Halt.TheVariants.{Character}
use Rattle.telling.specs.Rows.{row_length, row_of}
use Rattle.telling.specs.Telling.{unit_line, halt_line}

-- The first row, the last one, and none behind it.
pub first-row : row_of 0 (ascii "one\n\nthree\n") ≡ ascii "one"
unfolding row_of row_length
first-row = refl

pub last_row : row_of 2 (ascii "one\n\nthree\n") ≡ ascii "three"
unfolding row_of row_length
last_row = refl

pub no_row : row_of 3 (ascii "one\n\nthree\n") ≡ []
unfolding row_of row_length
no_row = refl

-- A bad line of a unit file, and one that is missing.
pub bad_area : unit_line 7 AreaForm ≡ ascii "unit 7: an area is \"area ID start N words N at N [size N] [load] [dump] [check]\"\n"
unfolding unit_line decimal_of decimal_from
bad_area = refl

pub missing_store : unit_line 100 NoStore ≡ ascii "unit 100: a unit has \"store N\", and no line has it\n"
unfolding unit_line decimal_of decimal_from
missing_store = refl

-- The carriage return of another system's text.
pub carriage_return : halt_line (Character 25 0x0D) ≡ ascii "character 25 is 0D\n"
unfolding halt_line decimal_of decimal_from text_of digit_of
carriage_return = refl
