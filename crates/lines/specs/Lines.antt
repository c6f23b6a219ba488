-- The lines of an input: the newline ends a line and nothing else does; a last line without its newline counts if it is not empty.
use Rattle.std.specs.Prelude.{Bool, true, false, List, [], ◌∷◌, ℕ, eqb}

-- The character that ends a line.
abbrev pub newline : ℕ
newline = 10

-- A character before some lines: a newline ends a line of its own, and any other begins the first.
abbrev pub before : Bool → ℕ → List (List ℕ) → List (List ℕ)
before true c lines = [] ∷ lines
before false c [] = (c ∷ []) ∷ []
before false c (line ∷ rest) = (c ∷ line) ∷ rest

-- The lines of an input.
unfoldable pub lines_of : List ℕ → List (List ℕ)
lines_of [] = []
lines_of (c ∷ rest) = before (eqb c newline) c (lines_of rest)
