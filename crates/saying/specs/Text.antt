-- Text in digits: octets, single spaces between groups (docs/CASES.md, "What is printed"), and what a caller is promised of text that is added to a buffer.
use Rattle.std.specs.Prelude.{◌≡◌, List, [], ◌∷◌, ◌++◌, ℕ, ◌+◌, min, length}
use Rattle.octets.specs.Copy.{laid}
use Rattle.characters.specs.Digits.{text_of}
use Rattle.lines.specs.Lines.{newline}
use Rattle.lines.specs.Feed.{Lent}

-- What stands between the groups of a line.
abbrev pub space : ℕ
space = 32

-- A group of octets behind another.
abbrev pub spaced : List ℕ → List ℕ
spaced octets = space ∷ text_of octets

-- A line of octets.
abbrev pub line_of : List ℕ → List ℕ
line_of octets = text_of octets ++ newline ∷ []

-- Text is laid into a buffer from a place on, and the place behind it is answered; one past the buffer's end says that some of it found no room.
pub record Says (added : List ℕ) (at : ℕ) (text : List ℕ) (r : ℕ) (text' : List ℕ) : Type 0 where
  pub at_is : r ≡ min (at + length added) (length text + 1)
  pub text_is : text' ≡ laid text at added

-- The same over the buffer that a function is lent.
abbrev pub SaysBy : List ℕ → ℕ → Lent → ℕ → Type 0
SaysBy added at text r = Says added at text.entry.now r text.exit.now
