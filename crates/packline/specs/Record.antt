-- docs/UNITS.md, "`pack UNIT [PACKETS]`": the record of a packet line, and why a line is refused by 70.
use Rattle.std.specs.Prelude.{cond, List, [], ◌∷◌, ◌++◌, ℕ, ◌+◌}
use Rattle.octets.specs.Numbers.{octet}
use Rattle.characters.specs.Digits.{all_digits_of, bad_place, upper_text}
use Rattle.lines.specs.Lines.{newline}
use Rattle.words.specs.Ascii.{ascii}
use Rattle.numerals.specs.Numbers.{decimal_of}
use Rattle.packetline.specs.Packet.{lines_of}
use Rattle.map.specs.declared.Profile.{Profile}
use Rattle.terminal.specs.Outcome.{frames_due}
use Rattle.hexline.specs.Line.{Station, packet_input, packet_in, packet_after}
use Rattle.packline.specs.declared.Halt.{Halt}
use Rattle.packline.specs.declared.Halt.TheVariants.{Character, Odd}

-- The record of a packet line: the line in upper case, its packet's frames with time zero, one a line, and an empty line.
unfoldable pub record_of : Profile → Station → List ℕ → List ℕ
record_of p m line = upper_text line ++ (newline ∷ (lines_of (frames_due (packet_input p m (packet_in line))) ++ newline ∷ []))

-- What goes on from it.
abbrev pub record_after : Profile → Station → List ℕ → Station
record_after p m line = packet_after p m (packet_in line)

-- A character that is no digit: its place, from 1, and its octet.
abbrev pub halt_character : List ℕ → Halt
halt_character line = Character (bad_place line + 1) (octet line (bad_place line))

-- Why a line that is no packet line is refused, where it is not too long: its first character that is no digit, from 1, else its odd digits.
unfoldable pub halt_of : List ℕ → Halt
halt_of line = cond (all_digits_of line) Odd (halt_character line)

-- What is said of it: `refused 70` and the number of the line.
abbrev pub refused_at : ℕ → List ℕ
refused_at number = ascii "refused 70 " ++ (decimal_of number ++ newline ∷ [])
