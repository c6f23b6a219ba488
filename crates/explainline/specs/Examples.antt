-- Lines of docs/EXPLAIN.md, by computation: the text of a reason, of acceptance and of a bad line, and the empty line under any profile.
use Rattle.std.specs.Prelude.{◌≡◌, refl, [], Ok, Err}
use Rattle.checks.specs.Table.{answer}
use Rattle.characters.specs.Digits.{value_of, digit_of, text_of, all_digits_of, octets_in}
use Rattle.words.specs.Ascii.{ascii}
use Rattle.numerals.specs.Numbers.{decimal_from, decimal_of}
use Rattle.packetline.specs.Packet.{is_packet}
use Rattle.map.specs.declared.Profile.{Profile}
use Rattle.reader.specs.Reader.{reader_rows}
use Rattle.decide.specs.Octets.{octets_of}
use Rattle.explaining.specs.Explanation.{explanation_of}
use Rattle.explainline.specs.Line.{reason_text, explanation_text, explain_says}

pub refused : explanation_text (Err (record { number = 2; detail = 0x0167; first = 10; last = 11 })) ≡ ascii "2 359 10 11\n"
unfolding reason_text decimal_of decimal_from
refused = refl

-- Where there are no octets to show, the last offset stands before the first.
pub none : explanation_text (Err (record { number = 5; detail = 0; first = 10; last = 9 })) ≡ ascii "5 0 10 9\n"
unfolding reason_text decimal_of decimal_from
none = refl

pub accepted : explanation_text (Ok tt) ≡ ascii "0000\n"
unfolding text_of digit_of
accepted = refl

pub odd : (p : Profile) → explain_says p (ascii "185") ≡ ascii "0200\n"
unfolding explain_says is_packet all_digits_of value_of text_of digit_of
odd p = refl

-- An empty line is a packet of no octets.
pub empty : (p : Profile) → explain_says p [] ≡ ascii "42 0 0 0\n"
unfolding explain_says is_packet all_digits_of explanation_of reader_rows answer octets_of octets_in reason_text decimal_of decimal_from
empty p = refl
