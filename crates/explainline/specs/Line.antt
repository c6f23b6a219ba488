-- docs/EXPLAIN.md: what `explain` prints for a line, and for an input.
use Rattle.std.specs.Prelude.{cond, List, [], ◌∷◌, ◌++◌, map, ℕ, Ok, Err}
use Rattle.laws.specs.Fold.{joined}
use Rattle.characters.specs.Digits.{octets_in}
use Rattle.lines.specs.Lines.{newline, lines_of}
use Rattle.words.specs.Ascii.{ascii}
use Rattle.numerals.specs.Numbers.{decimal_of}
use Rattle.packetline.specs.Packet.{is_packet, closing}
use Rattle.map.specs.declared.Profile.{Profile}
use Rattle.toldtext.specs.Told.{in_decimal}
use Rattle.explaining.specs.declared.Reason.{Reason}
use Rattle.explaining.specs.Explanation.{Explanation}
use Rattle.explaining.specs.Explanation.{explanation_of}

-- "In decimal with single spaces": number, detail, first and last offset.
unfoldable pub reason_text : Reason → List ℕ
reason_text r =
    decimal_of r.number
    ++ (in_decimal (ascii " ") r.detail
    ++ (in_decimal (ascii " ") r.first
    ++ (in_decimal (ascii " ") r.last
    ++ newline ∷ [])))

-- "An accepted packet prints 0000 alone."
abbrev pub explanation_text : Explanation → List ℕ
explanation_text (Ok _) = closing 0 0
explanation_text (Err r) = reason_text r

-- "Bad lines are treated as by the line program": 0200.
abbrev pub bad_text : List ℕ
bad_text = closing 2 0

-- What a line is answered under a profile.
unfoldable pub explain_says : Profile → List ℕ → List ℕ
explain_says p line = cond (is_packet line) (explanation_text (explanation_of p (octets_in line))) bad_text

-- The whole output: an answer for each line, and nothing goes from line to line.
abbrev pub explain_output : Profile → List ℕ → List ℕ
explain_output p input = joined (map (explain_says p) (lines_of input))
