-- What stands at the front of an input, and what a walk over its pieces leaves.
use Rattle.std.specs.Prelude.{Bool, true, false, cond, Option, None, Some, List, [], ◌∷◌, ℕ, suc, ◌+◌, min, length, take, drop, eqb, ltb}
use Rattle.lines.specs.declared.End.{End}
use Rattle.lines.specs.declared.End.TheVariants.{On, Newline, Last}
use Rattle.lines.specs.declared.Cut.{Cut}
use Rattle.lines.specs.declared.Walk.{Walk}
use Rattle.lines.specs.declared.Progress.{Progress}
use Rattle.lines.specs.Lines.{newline}

-- How far a program has come before the first read: it has no input, and what comes begins a line.
abbrev pub started : Progress
started = record { have = 0; begins = true; «open» = true; at = 0 }

-- A piece of so many characters that ends so.
abbrev pub cut : ℕ → End → Cut
cut count end = record { count = count; end = end }

-- The first whole piece of an input that may go on, so many of its characters passed: its newline ends it, or the character that has no room in it.
unfoldable pub next_from : ℕ → ℕ → List ℕ → Option Cut
next_from bound passed [] = None
next_from bound passed (c ∷ rest) =
    cond (eqb c newline) (Some (cut passed Newline))
    (cond (ltb passed bound) (next_from bound (suc passed) rest) (Some (cut passed On)))

-- The first whole piece of an input that may go on.
abbrev pub next_of : ℕ → List ℕ → Option Cut
next_of bound input = next_from bound 0 input

-- At the end of the input what is left is a last piece, if it is not empty.
abbrev pub rest_of : List ℕ → Option Cut
rest_of [] = None
rest_of (c ∷ rest) = Some (cut (length (c ∷ rest)) Last)

-- Of the input at the front of a buffer, what stands from a place on.
abbrev pub left_of : ℕ → ℕ → List ℕ → List ℕ
left_of from have buffer = drop from (take have buffer)

-- How many characters of the input a piece takes: its own, and its newline.
abbrev pub taken_by : ℕ → End → ℕ
taken_by count On = count
taken_by count Newline = count + 1
taken_by count Last = count

-- Whether a piece is the last of its line: then another line begins behind it.
abbrev pub ends_line : End → Bool
ends_line On = false
ends_line Newline = true
ends_line Last = true

-- A walk behind one piece more, the text said up to a place.
abbrev pub passed_of : List ℕ → Walk → ℕ → End → ℕ → Walk
passed_of input w count end at =
    record { from = min (w.from + taken_by count end) (length input); begins = ends_line end; «open» = false; at = at }

-- How far a program has come that moved what a walk left to the front of its buffer.
abbrev pub carried_of : ℕ → List ℕ → Walk → Progress
carried_of have buffer w =
    record { have = length (left_of w.from have buffer); begins = w.begins; «open» = w.«open»; at = w.at }
