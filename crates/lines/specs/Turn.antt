-- An input that comes in parts, for any machine that is given pieces: whole pieces are answered as long as there is room for another answer, and what is left waits for more.
use Rattle.std.specs.Prelude.{Bool, true, false, cond, List, [], ◌∷◌, ◌++◌, ℕ, ◌-◌, length, eqb, leb, ltb}
use Rattle.lines.specs.declared.End.TheVariants.{On, Newline, Last}
use Rattle.lines.specs.Lines.{newline}
use Rattle.lines.specs.Pieces.{Piece, piece, cut_from}
use Rattle.laws.specs.Fold.{answers, joined}

-- A program over pieces: how long a piece is at most, how long an answer is at most, what is said to a piece, and what the machine becomes.
pub record Program (M : Type 0) : Type 0 where
  pub bound : ℕ
  pub most : ℕ
  pub says : M → Piece → List ℕ
  pub becomes : M → Piece → M

-- What some input comes to: what is said, what goes on, the input that is left, whether it begins a line, and whether no whole piece is left in it.
pub record Turn (M : Type 0) : Type 0 where
  pub said : List ℕ
  pub after : M
  pub begins : Bool
  pub left : List ℕ
  pub «open» : Bool

-- Nothing more is said.
abbrev pub waits : {M : Type 0} → Bool → M → Bool → List ℕ → Turn M
waits «open» m begins left = record { said = []; after = m; begins = begins; left = left; «open» = «open» }

-- An answer, and then what else is said.
abbrev pub saying : {M : Type 0} → List ℕ → Turn M → Turn M
saying answer t = record { said = answer ++ t.said; after = t.after; begins = t.begins; left = t.left; «open» = t.«open» }

module _ {M : Type 0} (p : Program M) where
  -- The whole output as a function of the whole input, which begins a line or goes on with one.
  unfoldable pub output_from : M → Bool → List ℕ → List ℕ
  output_from m begins input = joined (answers p.says p.becomes m (cut_from p.bound begins [] input))

  -- Input behind the characters of an open piece, in a text with so much room.
  unfoldable pub turn_from : ℕ → M → Bool → List ℕ → List ℕ → Turn M
  turn_from room m begins text [] = waits true m begins text
  turn_from room m begins text (c ∷ rest) =
      cond (eqb c newline)
      (cond (leb p.most room)
      (saying (p.says m (piece begins text Newline)) (turn_from (room - length (p.says m (piece begins text Newline))) (p.becomes m (piece begins text Newline)) true [] rest))
      (waits false m begins (text ++ c ∷ rest)))
      (cond (ltb (length text) p.bound)
      (turn_from room m begins (text ++ c ∷ []) rest)
      (cond (leb p.most room)
      (saying (p.says m (piece begins text On)) (turn_from (room - length (p.says m (piece begins text On))) (p.becomes m (piece begins text On)) false (c ∷ []) rest))
      (waits false m begins (text ++ c ∷ rest))))

  -- Input that stands behind no open piece.
  abbrev pub turn_of : ℕ → M → Bool → List ℕ → Turn M
  turn_of room m begins input = turn_from room m begins [] input

  -- What is said of what is left at the end of the input: it is a last piece, if it is not empty.
  abbrev pub last_says : M → Bool → List ℕ → List ℕ
  last_says m begins [] = []
  last_says m begins (c ∷ rest) = p.says m (piece begins (c ∷ rest) Last)

  -- What goes on from it.
  abbrev pub last_becomes : M → Bool → List ℕ → M
  last_becomes m begins [] = m
  last_becomes m begins (c ∷ rest) = p.becomes m (piece begins (c ∷ rest) Last)

  -- One turn for each part, from what is left of the input before; a part may be empty.
  unfoldable pub turns_of : ℕ → Bool → M → Bool → List ℕ → List (List ℕ) → Turn M
  turns_of room «open» m begins left [] = waits «open» m begins left
  turns_of room «open» m begins left (part ∷ parts) =
      let t : Turn M = turn_of room m begins (left ++ part) in
      saying t.said (turns_of room t.«open» t.after t.begins t.left parts)
