-- docs/JUDGE.md, "What is told of a line that differs".
use Rattle.std.specs.Prelude.{cond, List, [], ◌∷◌, ◌++◌, ℕ, length, take, drop, leb}
use Rattle.characters.specs.Digits.{text_of, upper_text, octets_in}
use Rattle.lines.specs.Lines.{newline}
use Rattle.words.specs.Ascii.{ascii}
use Rattle.numerals.specs.Numbers.{decimal_of}
use Rattle.beside.specs.Beside.{parting_of}

-- A word and a number on a line.
abbrev pub number_line : List ℕ → ℕ → List ℕ
number_line word number = word ++ (decimal_of number ++ newline ∷ [])

-- A word, and a text or `nothing`, on a line.
abbrev pub text_line : List ℕ → List ℕ → List ℕ
text_line word text = word ++ (text ++ newline ∷ [])

-- The frame due: its time is that of the line found, in upper case, or its own where that line has fewer than 12 octets; `nothing` where none is due.
abbrev pub due_text : List ℕ → List ℕ → List ℕ
due_text [] line = ascii "nothing"
due_text (x ∷ due) line =
    cond (leb 24 (length line))
    (text_of (take 6 (x ∷ due)) ++ (upper_text (take 12 (drop 12 line)) ++ text_of (drop 12 (x ∷ due))))
    (text_of (x ∷ due))

-- The line found, in upper case; `nothing` where it is the empty line.
abbrev pub found_text : List ℕ → List ℕ
found_text [] = ascii "nothing"
found_text (c ∷ line) = upper_text (c ∷ line)

-- Where both are there, the first octet at which they part.
abbrev pub octet_line : List ℕ → List ℕ → List ℕ
octet_line [] line = []
octet_line (x ∷ due) [] = []
octet_line (x ∷ due) (c ∷ line) = number_line (ascii "octet ") (parting_of (x ∷ due) (octets_in (c ∷ line)))

-- All that is told: the line that differs, the line of its packet, what was due and what was found there.
unfoldable pub differs_text : ℕ → ℕ → List ℕ → List ℕ → List ℕ
differs_text number packet due line =
    number_line (ascii "differs ") number
    ++ (number_line (ascii "packet ") packet
    ++ ((text_line (ascii "due ") (due_text due line) ++ text_line (ascii "found ") (found_text line))
    ++ octet_line due line))
