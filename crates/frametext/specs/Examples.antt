-- Lines of docs/FRAMES.md, by computation: the frames of document 01's example, a dump, a check, and what is refused.
use Rattle.std.specs.Prelude.{◌≡◌, refl, [], ◌++◌}
use Rattle.octets.specs.Copy.{between}
use Rattle.checks.specs.Table.{answer}
use Rattle.characters.specs.Digits.{value_of, digit_of, text_of, octets_in}
use Rattle.words.specs.Ascii.{ascii}
use Rattle.numerals.specs.Numbers.{decimal_from, decimal_of}
use Rattle.counts.specs.Counts.{category_of}
use Rattle.map.specs.Place.{word_octets}
use Rattle.contents.specs.Kinds.{kind_of}
use Rattle.contents.specs.Source.{entries_in, lengths_right_of, dump_formed, check_formed}
use Rattle.tmreader.specs.Reader.{size_right, bits_right, head_right, kind_right, frame_rows, judged, stamp_in, reading_of}
use Rattle.toldtext.specs.Told.{entries_text}
use Rattle.frametext.specs.Text.{stamp_text, frame_text}

pub refusal : frame_text (octets_in (ascii "0851C002001100000000000000010200185CC00000020167"))
    ≡ ascii "(1,2) pid 5 count 2 time 000000000000 packet 185C control C000 code 2 detail 359\n"
unfolding frame_text stamp_text reading_of stamp_in judged frame_rows answer size_right head_right bits_right kind_right kind_of category_of text_of digit_of decimal_of decimal_from octets_in value_of
refusal = refl

pub connection : frame_text (octets_in (ascii "0859C000000900000000000000110200")) ≡ ascii "(17,2) pid 5 count 0 time 000000000000\n"
unfolding frame_text stamp_text reading_of stamp_in judged frame_rows answer size_right head_right bits_right kind_right kind_of category_of text_of digit_of decimal_of decimal_from octets_in value_of
connection = refl

-- The words of a block, and the CRCs of two.
pub dump : frame_text (octets_in (ascii "0859C001001500000000000000060600" ++ ascii "01010000103E0002ABCD1456"))
    ≡ ascii "(6,6) pid 5 count 1 time 000000000000 memory 1 start 0000103E length 2 words ABCD1456\n"
unfolding frame_text stamp_text reading_of stamp_in judged frame_rows answer size_right head_right bits_right kind_right kind_of category_of dump_formed word_octets between text_of digit_of decimal_of decimal_from octets_in value_of
dump = refl

pub check : frame_text (octets_in (ascii "0859C000001B00000000000000060A00" ++ ascii "01020000103E0002E18B0000100000011D0F"))
    ≡ ascii "(6,10) pid 5 count 0 time 000000000000 memory 1 blocks 2 start 0000103E length 2 crc E18B start 00001000 length 1 crc 1D0F\n"
unfolding frame_text stamp_text entries_text reading_of stamp_in judged frame_rows answer size_right head_right bits_right kind_right kind_of category_of check_formed lengths_right_of entries_in between text_of digit_of decimal_of decimal_from octets_in value_of
check = refl

-- A frame whose type bit is flipped, and no octets at all.
pub flipped : frame_text (octets_in (ascii "1851C002001100000000000000010200185CC00000020167")) ≡ ascii "refused 61\n"
unfolding frame_text reading_of judged frame_rows answer size_right head_right bits_right decimal_of decimal_from octets_in value_of
flipped = refl

pub none : frame_text [] ≡ ascii "refused 60\n"
unfolding frame_text reading_of judged frame_rows answer size_right decimal_of decimal_from
none = refl
