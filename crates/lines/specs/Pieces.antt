-- The pieces of an input: a line of at most so many characters is one piece, a longer one is cut into pieces of that many.
use Rattle.std.specs.Prelude.{Bool, true, false, cond, List, [], ◌∷◌, ◌++◌, ℕ, length, eqb, ltb}
use Rattle.lines.specs.declared.End.{End}
use Rattle.lines.specs.declared.End.TheVariants.{On, Newline, Last}
use Rattle.lines.specs.Lines.{newline}

-- A piece of a line: whether it is the line's first, its characters, and how it ends.
pub record Piece : Type 0 where
  pub begins : Bool
  pub text : List ℕ
  pub end : End

-- A piece with those.
abbrev pub piece : Bool → List ℕ → End → Piece
piece begins text end = record { begins = begins; text = text; end = end }

-- What is left at the end of the input is a last piece, if it is not empty.
abbrev pub last_of : Bool → List ℕ → List Piece
last_of begins [] = []
last_of begins (c ∷ rest) = piece begins (c ∷ rest) Last ∷ []

-- The pieces of an input behind the characters of an open piece: a newline ends the piece; a character that has no room in it begins the next.
unfoldable pub cut_from : ℕ → Bool → List ℕ → List ℕ → List Piece
cut_from bound begins text [] = last_of begins text
cut_from bound begins text (c ∷ rest) =
    cond (eqb c newline) (piece begins text Newline ∷ cut_from bound true [] rest)
    (cond (ltb (length text) bound) (cut_from bound begins (text ++ c ∷ []) rest)
    (piece begins text On ∷ cut_from bound false (c ∷ []) rest))

-- The pieces of an input, of at most so many characters each.
abbrev pub pieces_of : ℕ → List ℕ → List Piece
pieces_of bound input = cut_from bound true [] input

-- What a piece adds in front of the lines behind it: one that goes on begins the first of them.
abbrev pub added_to : End → List ℕ → List (List ℕ) → List (List ℕ)
added_to On text [] = text ∷ []
added_to On text (line ∷ rest) = (text ++ line) ∷ rest
added_to Newline text lines = text ∷ lines
added_to Last text lines = text ∷ lines

-- The lines that some pieces make up.
unfoldable pub together : List Piece → List (List ℕ)
together [] = []
together (x ∷ rest) = added_to x.end x.text (together rest)
