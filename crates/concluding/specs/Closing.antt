-- docs/JUDGE.md: the last verdict on a record, behind its last line.
use Rattle.std.specs.Prelude.{cond, List, [], ◌∷◌, ◌++◌, ℕ}
use Rattle.lines.specs.Lines.{newline}
use Rattle.words.specs.Ascii.{ascii}
use Rattle.numerals.specs.Numbers.{decimal_of}
use Rattle.packline.specs.declared.Halt.TheVariants.{NoPacket}
use Rattle.desk.specs.declared.Desk.{Desk}
use Rattle.desk.specs.Place.{halting, is_halted}

-- What is said where no line differs: `conforming`, and how many packets and frames were compared, or `refused 71` where there was no packet.
abbrev pub conforming_text : ℕ → ℕ → List ℕ
conforming_text packets frames =
    ascii "conforming" ++ (newline ∷ (ascii "packets " ++ (decimal_of packets ++ (ascii " frames " ++ (decimal_of frames ++ newline ∷ [])))))

abbrev pub no_packet_text : List ℕ
no_packet_text = ascii "refused 71" ++ newline ∷ []

unfoldable pub closing_says : Desk → List ℕ
closing_says d =
    cond (is_halted d) [] (cond d.group.some (conforming_text d.group.packets d.group.frames) no_packet_text)

unfoldable pub closing_desk : Desk → Desk
closing_desk d = cond (is_halted d) d (cond d.group.some d (halting d NoPacket))
