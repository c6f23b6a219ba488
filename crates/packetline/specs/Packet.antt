-- Document 01, "The line program": which lines are packet lines, frames one a line, and closing lines.
use Rattle.std.specs.Prelude.{Bool, cond, ◌&&◌, List, [], ◌∷◌, map, ℕ, ◌%◌, length, leb, eqb}
use Rattle.laws.specs.Fold.{joined}
use Rattle.checks.specs.Verdict.{Verdict}
use Rattle.checks.specs.Verdict.{is_accepted, number_of}
use Rattle.characters.specs.Digits.{all_digits_of}
use Rattle.saying.specs.Text.{line_of}

-- The most characters of a packet line.
abbrev pub line_most : ℕ
line_most = 4096

-- A packet line: digits only, an even count of them, and at most 4,096.
unfoldable pub is_packet : List ℕ → Bool
is_packet line = all_digits_of line && eqb (length line % 2) 0 && leb (length line) line_most

-- Frames, one a line.
abbrev pub lines_of : List (List ℕ) → List ℕ
lines_of frames = joined (map line_of frames)

-- A closing line: two octets.
abbrev pub closing : ℕ → ℕ → List ℕ
closing kind number = line_of (kind ∷ number ∷ [])

-- The closing line of a verdict: 0000 accepted, or 01 and the number as one octet.
unfoldable pub closing_of : Verdict → List ℕ
closing_of v = closing (cond (is_accepted v) 0 1) (number_of v)
