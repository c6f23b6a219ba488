-- Lines of docs/CASES.md for `F`, by computation.
use Rattle.std.specs.Prelude.{◌≡◌, refl}
use Rattle.octets.specs.Copy.{between}
use Rattle.checks.specs.Table.{answer}
use Rattle.characters.specs.Digits.{value_of, digit_of, text_of, octets_in}
use Rattle.words.specs.Ascii.{ascii}
use Rattle.counts.specs.Counts.{category_of}
use Rattle.contents.specs.Kinds.{kind_of}
use Rattle.tmreader.specs.Reader.{size_right, bits_right, head_right, kind_right, frame_rows, judged, stamp_in, reading_of}
use Rattle.fieldtext.specs.Fields.{fields_text, read_text}

-- In octets: verdict, APID, count, time, type, subtype and source data; and of a refused frame the verdict alone.
pub refusal_read : read_text (octets_in (ascii "0851C002001100000000000000010200185CC00000020167"))
    ≡ ascii "0000 0051 0002 000000000000 01 02 185CC00000020167\n"
unfolding read_text fields_text reading_of stamp_in judged frame_rows answer size_right head_right bits_right kind_right kind_of category_of between text_of digit_of octets_in value_of
refusal_read = refl

pub flipped_read : read_text (octets_in (ascii "1851C002001100000000000000010200185CC00000020167")) ≡ ascii "013D 0000 0000 000000000000 00 00 \n"
unfolding read_text fields_text reading_of judged frame_rows answer size_right head_right bits_right between text_of digit_of octets_in value_of
flipped_read = refl
