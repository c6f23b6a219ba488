-- docs/FRAMES.md: the line that tells a person what a frame says.
use Rattle.std.specs.Prelude.{cond, List, [], ◌∷◌, ◌++◌, ℕ}
use Rattle.lines.specs.Lines.{newline}
use Rattle.words.specs.Ascii.{ascii}
use Rattle.tm.specs.declared.Stamp.{Stamp}
use Rattle.tmreader.specs.Reader.{Verdict}
use Rattle.tmreader.specs.Reader.{is_clean, number_of, reading_of, told_in}
use Rattle.toldtext.specs.Told.{in_decimal, in_hex, told_text}

-- Type and subtype, PID, count and time.
unfoldable pub stamp_text : Stamp → List ℕ
stamp_text s =
    in_decimal (ascii "(") s.kind
    ++ (in_decimal (ascii ",") s.subtype
    ++ (in_decimal (ascii ") pid ") s.pid
    ++ (in_decimal (ascii " count ") s.count
    ++ in_hex (ascii " time ") s.time)))

-- A refusal by its number.
abbrev pub refused_text : Verdict → List ℕ
refused_text v = in_decimal (ascii "refused ") (number_of v) ++ newline ∷ []

-- The line of a frame.
unfoldable pub frame_text : List ℕ → List ℕ
frame_text f =
    cond (is_clean (reading_of f).verdict) (stamp_text (reading_of f).stamp ++ (told_text (told_in f) ++ newline ∷ [])) (refused_text (reading_of f).verdict)

-- The line of what is no frame in hexadecimal.
abbrev pub bad_text : List ℕ
bad_text = ascii "bad line" ++ newline ∷ []
