-- A program that answers lines says and becomes over the pieces of an input what it does over its lines, however the input is divided.
-- Assumes nothing.
use mathlib.Core.Path.{◌≡◌, refl, sym, ap, subst, ◌∙◌}
use mathlib.Core.Bool.{Bool, true, false, cond, false≢true}
use mathlib.Core.List.{List, [], ◌∷◌, ◌++◌, append_assoc, append-nil}
use Prim.Native.Nat.{ℕ, ◌≤◌, ◌<◌}
use native.Mathlib.Omega.{arith}
use lib.ListN.{length, replicate, length-append}
use lib.Dec.{eqb}
use borrow.Author.Tests.{lt-leb, le-leb}
use Rattle.laws.proofs.Tests.{by-test}
use Rattle.lines.specs.declared.End.{End}
use Rattle.lines.specs.declared.End.TheVariants.{On, Newline, Last}
use Rattle.lines.specs.Lines.{newline, before, lines_of}
use Rattle.lines.specs.Pieces.{Piece, piece, last_of, cut_from, pieces_of, added_to, together}
use Rattle.lines.specs.Cuts.{ends_line}
use Rattle.laws.specs.Fold.{reached, joined}
use Rattle.lines.specs.Turn.{Turn, output_from, last_says, last_becomes, turns_of}
use Rattle.lines.specs.Feed.{LineProgram, line_says, line_becomes, output_of, piece_says, piece_becomes, over_pieces}
use Rattle.lines.proofs.Measures.{Measure, what_is_said, what_is_reached, same_none, same_cons}
use Rattle.lines.proofs.Opening.{cut-newline, cut_more, cut_on, by-character}
use Rattle.lines.proofs.Turns.{Fits}
use Rattle.lines.proofs.Streams.{stream_comes, stream_whole}

-- ---- lines behind the characters of an open one

-- A last line counts if it is not empty.
abbrev last_line : List ℕ → List (List ℕ)
last_line [] = []
last_line (c ∷ w) = (c ∷ w) ∷ []

-- Characters before some lines: they begin the first.
abbrev behind : List ℕ → List (List ℕ) → List (List ℕ)
behind [] ls = ls
behind (c ∷ w) [] = (c ∷ w) ∷ []
behind (c ∷ w) (l ∷ ls) = (c ∷ w ++ l) ∷ ls

-- The lines of an input behind an open one.
lines_from : List ℕ → List ℕ → List (List ℕ)
lines_from w [] = last_line w
lines_from w (c ∷ s) = cond (eqb c newline) (w ∷ lines_from [] s) (lines_from (w ++ c ∷ []) s)

lines_newline : (w : List ℕ) (c : ℕ) (s : List ℕ) → eqb c newline ≡ true → lines_from w (c ∷ s) ≡ w ∷ lines_from [] s
unfolding lines_from
lines_newline w c s e = rw e refl

lines_other : (w : List ℕ) (c : ℕ) (s : List ℕ) → eqb c newline ≡ false → lines_from w (c ∷ s) ≡ lines_from (w ++ c ∷ []) s
unfolding lines_from
lines_other w c s e = rw e refl

behind_none : (w : List ℕ) → last_line w ≡ behind w []
behind_none [] = refl
behind_none (c ∷ w) = refl

behind_empty : (w : List ℕ) (ls : List (List ℕ)) → behind w ([] ∷ ls) ≡ w ∷ ls
behind_empty [] ls = refl
behind_empty (c ∷ w) ls = ap (λ (l : List ℕ). (c ∷ l) ∷ ls) (append-nil w)

behind_more : (w : List ℕ) (c : ℕ) (ls : List (List ℕ)) → behind (w ++ c ∷ []) ls ≡ behind w (before false c ls)
behind_more [] c [] = refl
behind_more [] c (l ∷ ls) = refl
behind_more (d ∷ w) c [] = refl
behind_more (d ∷ w) c (l ∷ ls) = ap (λ (r : List ℕ). (d ∷ r) ∷ ls) (append_assoc w (c ∷ []) l)

lines_from_lem : (w s : List ℕ) → lines_from w s ≡ behind w (lines_of s)
unfolding lines_from lines_of
lines_from_lem w [] = behind_none w
lines_from_lem w (c ∷ s) =
    by-test (eqb c newline)
    (λ e. rw e (ap (λ (ls : List (List ℕ)). w ∷ ls) (lines_from_lem [] s) ∙ sym (behind_empty w (lines_of s))))
    (λ e. rw e (lines_from_lem (w ++ c ∷ []) s ∙ behind_more w c (lines_of s)))

-- ---- pieces put together again

-- A piece that goes on, and behind it a line that begins with one character.
glue : (u : List ℕ) (c : ℕ) (ls : List (List ℕ)) → added_to On u (behind (c ∷ []) ls) ≡ behind (u ++ c ∷ []) ls
glue [] c [] = refl
glue [] c (l ∷ ls) = refl
glue (d ∷ u) c [] = refl
glue (d ∷ u) c (l ∷ ls) = ap (λ (r : List ℕ). (d ∷ r) ∷ ls) (sym (append_assoc u (c ∷ []) l))

together_last : (b : Bool) (u : List ℕ) → together (last_of b u) ≡ last_line u
unfolding together
together_last b [] = refl
together_last b (c ∷ u) = refl

together-from : (bound : ℕ) (b : Bool) (u s : List ℕ) → together (cut_from bound b u s) ≡ lines_from u s
unfolding together cut_from lines_from
together-from bound b u [] = together_last b u
together-from bound b u (c ∷ s) =
    by-character bound u c
    (λ e. ap together (cut-newline bound b u c s e) ∙ ap (λ (ls : List (List ℕ)). u ∷ ls) (together-from bound true [] s) ∙ sym (lines_newline u c s e))
    (λ e k. ap together (cut_more bound b u c s e k) ∙ together-from bound b (u ++ c ∷ []) s ∙ sym (lines_other u c s e))
    (λ e k.
    ap together (cut_on bound b u c s e k)
    ∙ ap (added_to On u) (together-from bound false (c ∷ []) s ∙ lines_from_lem (c ∷ []) s)
    ∙ glue u c (lines_of s)
    ∙ sym (lines_other u c s e ∙ lines_from_lem (u ++ c ∷ []) s))

-- No character is lost: the pieces of an input make up its lines, whatever the bound.
pub pieces_together : (bound : ℕ) (input : List ℕ) → together (pieces_of bound input) ≡ lines_of input
pieces_together bound input = together-from bound true [] input ∙ lines_from_lem [] input

-- ---- pieces and lines

-- What a line program says to a piece, by whether the piece ends its line and whether it is all of it.
module _ {M : Type 0} (p : LineProgram M) (m : M) (text : List ℕ) where
  -- An answer to a piece, and what the machine becomes.
  abbrev pub PieceSaid : Bool → End → List ℕ → M → Type 0
  PieceSaid b end answer after = (piece_says p b m text end ≡ answer) × (piece_becomes p b m text end ≡ after)

  -- Nothing is said to a piece that goes on.
  pub piece_on : (b : Bool) (end : End) → ends_line end ≡ false → PieceSaid b end [] m
  piece_on b On e = (refl, refl)
  piece_on b Newline e = absurd (false≢true (sym e))
  piece_on b Last e = absurd (false≢true (sym e))

  piece-ended : (b : Bool) (end : End) → ends_line end ≡ true → PieceSaid b end (cond b (p.says m text) (p.says_long m)) (cond b (p.becomes m text) (p.becomes_long m))
  piece-ended b On e = absurd (false≢true e)
  piece-ended b Newline e = (refl, refl)
  piece-ended b Last e = (refl, refl)

  -- A piece that is all of its line.
  pub piece_line : (b : Bool) (end : End) → ends_line end ≡ true → b ≡ true → PieceSaid b end (p.says m text) (p.becomes m text)
  piece_line b end e h =
      subst (λ (k : Bool). PieceSaid b end (cond k (p.says m text) (p.says_long m)) (cond k (p.becomes m text) (p.becomes_long m))) h (piece-ended b end e)

  -- The last piece of a line that is too long.
  pub piece-long : (b : Bool) (end : End) → ends_line end ≡ true → b ≡ false → PieceSaid b end (p.says_long m) (p.becomes_long m)
  piece-long b end e h =
      subst (λ (k : Bool). PieceSaid b end (cond k (p.says m text) (p.says_long m)) (cond k (p.becomes m text) (p.becomes_long m))) h (piece-ended b end e)

module _ {M : Type 0} (p : LineProgram M) where
  -- An open line, and its open piece: all of the line, or a part of one that is too long.
  abbrev Part : Bool → List ℕ → List ℕ → Type 0
  Part true u w = (w ≡ u) × (length u ≤ p.bound)
  Part false u w = (1 ≤ length u) × (p.bound < length w)

  -- At its end the line is answered.
  part_ended : (b : Bool) (u w : List ℕ) (m : M) → Part b u w
      → (cond b (p.says m u) (p.says_long m) ≡ line_says p m w) × (cond b (p.becomes m u) (p.becomes_long m) ≡ line_becomes p m w)
  part_ended true u w m h = rw (h.0, le-leb (length u) p.bound h.1) (refl, refl)
  part_ended false u w m h = rw (lt-leb (length w) p.bound h.1) (refl, refl)

  -- One character more, in the piece or in the next.
  part_more : (b : Bool) (u w : List ℕ) (c : ℕ) → Part b u w → length u < p.bound → Part b (u ++ c ∷ []) (w ++ c ∷ [])
  part_more true u w c h k = (ap (λ (l : List ℕ). l ++ c ∷ []) h.0, omega (arith, length-append u (c ∷ [])))
  part_more false u w c h k = (omega (arith, length-append u (c ∷ [])), omega (arith, h.1, length-append w (c ∷ [])))

  part_on : (b : Bool) (u w : List ℕ) (c : ℕ) → Part b u w → p.bound ≤ length u → Part false (c ∷ []) (w ++ c ∷ [])
  part_on true u w c h k = (omega arith, omega (arith, ap length h.0, length-append w (c ∷ [])))
  part_on false u w c h k = (omega arith, omega (arith, h.1, length-append w (c ∷ [])))

  module _ {X : Type 0} (k : Measure M X) where
    -- What some pieces come to.
    abbrev of_pieces : M → List Piece → X
    of_pieces m xs = k.of (over_pieces p).says (over_pieces p).becomes m xs

    -- What some lines come to.
    abbrev of_lines : M → List (List ℕ) → X
    of_lines m ls = k.of (line_says p) (line_becomes p) m ls

    -- A piece that ends its line, and what comes behind it.
    ended_comes : (b : Bool) (u w : List ℕ) (e : End) (m : M) (xs : List Piece) (ls : List (List ℕ)) → Part b u w → ends_line e ≡ true
        → ((n : M) → of_pieces n xs ≡ of_lines n ls) → of_pieces m (piece b u e ∷ xs) ≡ of_lines m (w ∷ ls)
    ended_comes b u w e m xs ls h i f =
        let said : PieceSaid p m u b e (cond b (p.says m u) (p.says_long m)) (cond b (p.becomes m u) (p.becomes_long m)) = piece-ended p m u b e i in
        same_cons k (over_pieces p).says (over_pieces p).becomes (line_says p) (line_becomes p) m (piece b u e) w xs ls
        (said.0 ∙ (part_ended b u w m h).0) (said.1 ∙ (part_ended b u w m h).1) f

    -- A piece of a line that goes on.
    on_comes : (b : Bool) (u : List ℕ) (m : M) (xs : List Piece) → of_pieces m (piece b u On ∷ xs) ≡ of_pieces m xs
    on_comes b u m xs = k.of_cons (over_pieces p).says (over_pieces p).becomes m (piece b u On) xs ∙ k.add_none (of_pieces m xs)

    -- The end of the input.
    none_comes : (m : M) → of_pieces m [] ≡ of_lines m []
    none_comes = same_none k (over_pieces p).says (over_pieces p).becomes (line_says p) (line_becomes p)

    last_comes : (b : Bool) (u w : List ℕ) (m : M) → Part b u w → of_pieces m (last_of b u) ≡ of_lines m (last_line w)
    last_comes true [] [] m h = none_comes m
    last_comes true [] (d ∷ w) m h = absurd (omega (arith, ap length h.0))
    last_comes true (c ∷ u) [] m h = absurd (omega (arith, ap length h.0))
    last_comes true (c ∷ u) (d ∷ w) m h = ended_comes true (c ∷ u) (d ∷ w) Last m [] [] h refl none_comes
    last_comes false [] w m h = absurd (omega (arith, h.0))
    last_comes false (c ∷ u) [] m h = absurd (omega (arith, h.1))
    last_comes false (c ∷ u) (d ∷ w) m h = ended_comes false (c ∷ u) (d ∷ w) Last m [] [] h refl none_comes

    part_comes : (m : M) (b : Bool) (u w s : List ℕ) → Part b u w → of_pieces m (cut_from p.bound b u s) ≡ of_lines m (lines_from w s)
    unfolding cut_from lines_from
    part_comes m b u w [] h = last_comes b u w m h
    part_comes m b u w (c ∷ s) h =
        by-character p.bound u c
        (λ e.
        ap (of_pieces m) (cut-newline p.bound b u c s e)
        ∙ ended_comes b u w Newline m (cut_from p.bound true [] s) (lines_from [] s) h refl (λ n. part_comes n true [] [] s (refl, omega arith))
        ∙ ap (of_lines m) (sym (lines_newline w c s e)))
        (λ e i.
        ap (of_pieces m) (cut_more p.bound b u c s e i)
        ∙ part_comes m b (u ++ c ∷ []) (w ++ c ∷ []) s (part_more b u w c h i)
        ∙ ap (of_lines m) (sym (lines_other w c s e)))
        (λ e i.
        ap (of_pieces m) (cut_on p.bound b u c s e i)
        ∙ on_comes b u m (cut_from p.bound false (c ∷ []) s)
        ∙ part_comes m false (c ∷ []) (w ++ c ∷ []) s (part_on b u w c h i)
        ∙ ap (of_lines m) (sym (lines_other w c s e)))

    -- The pieces of an input come to what its lines come to.
    pieces_come : (m : M) (input : List ℕ) → of_pieces m (pieces_of p.bound input) ≡ of_lines m (lines_of input)
    pieces_come m input = part_comes m true [] [] input (refl, omega arith) ∙ ap (of_lines m) (lines_from_lem [] input)

-- A line program's numbers fit: a line may have a character, and every answer is at most as long as it says.
pub record LineFits {M : Type 0} (p : LineProgram M) : Type 0 where
  pub positive : 1 ≤ p.bound
  pub line_most_lem : (m : M) (line : List ℕ) → length line ≤ p.bound → length (p.says m line) ≤ p.most
  pub long_most : (m : M) → length (p.says_long m) ≤ p.most

module _ {M : Type 0} (p : LineProgram M) (fits : LineFits p) where
  ended_most : (m : M) (b : Bool) (u : List ℕ) → length u ≤ p.bound → length (cond b (p.says m u) (p.says_long m)) ≤ p.most
  ended_most m true u h = fits.line_most_lem m u h
  ended_most m false u h = fits.long_most m

  piece_most : (m : M) (b : Bool) (u : List ℕ) (e : End) → length u ≤ p.bound → length (piece_says p b m u e) ≤ p.most
  piece_most m b u On h = omega arith
  piece_most m b u Newline h = ended_most m b u h
  piece_most m b u Last h = ended_most m b u h

  -- So do those of the same program over pieces.
  pub pieces_fit : Fits (over_pieces p)
  pieces_fit = record { positive = fits.positive; answer_most = λ m x h. piece_most m x.begins x.text x.end h }

  module _ (room n : ℕ) (m : M) (parts : List (List ℕ)) (r : p.most ≤ room) (h : length (joined parts) < n) where
    -- However an input is divided, a program that answers lines says to its parts, and then of its last piece, what it says to the lines of the whole.
    pub stream_lines : let t : Turn M = turns_of (over_pieces p) room true m true [] (parts ++ replicate n []) in
        t.said ++ last_says (over_pieces p) t.after t.begins t.left ≡ output_of p m (joined parts)
    unfolding output_from output_of
    stream_lines = stream_whole (over_pieces p) pieces_fit room n m parts r h ∙ pieces_come p what_is_said m (joined parts)

    -- And it has become what it becomes over those lines.
    pub stream_reached : let t : Turn M = turns_of (over_pieces p) room true m true [] (parts ++ replicate n []) in
        last_becomes (over_pieces p) t.after t.begins t.left ≡ reached (line_becomes p) m (lines_of (joined parts))
    stream_reached = stream_comes (over_pieces p) pieces_fit what_is_reached room n m parts r h ∙ pieces_come p what_is_reached m (joined parts)
