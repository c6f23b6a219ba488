-- Laws of one turn, for any program over pieces: what it comes to by any measure, what it leaves, and the room it takes.
-- Assumes nothing.
use mathlib.Core.Path.{◌≡◌, sym, ap, ◌∙◌}
use mathlib.Core.Bool.{Bool, true, false, false≢true}
use mathlib.Core.List.{List, [], ◌∷◌, ◌++◌, append_assoc, append-nil}
use Prim.Native.Nat.{ℕ, ◌+◌, ◌-◌, ◌≤◌, ◌<◌}
use native.Mathlib.Omega.{arith}
use lib.ListN.{length, take, length-append}
use Rattle.octets.specs.Copy.{laid}
use Rattle.octets.proofs.Laid.{laid_front}
use Rattle.laws.proofs.Order.{by_order}
use Rattle.lines.specs.declared.End.TheVariants.{On, Newline, Last}
use Rattle.lines.specs.Pieces.{Piece, piece, cut_from}
use Rattle.lines.specs.Turn.{Program, Turn, waits, output_from, turn_from, turn_of, last_says, last_becomes}
use Rattle.lines.proofs.Measures.{Measure, what_is_said}
use Rattle.lines.proofs.Opening.{Open, open_none, open_more, open_one, cut-newline, cut_more, cut_on, answered, turn_none, turn_newline, turn_more, turn_on, turn_full_newline, turn_full_on, by-character}

-- A program's numbers fit: a piece has at least one character, and every answer to a piece is at most as long as it says.
pub record Fits {M : Type 0} (p : Program M) : Type 0 where
  pub positive : 1 ≤ p.bound
  pub answer_most : (m : M) (x : Piece) → length x.text ≤ p.bound → length (p.says m x) ≤ p.most

module _ {M X : Type 0} (k : Measure M X) (p : Program M) where
  -- What some pieces come to.
  abbrev of_pieces : M → List Piece → X
  of_pieces m xs = k.of p.says p.becomes m xs

  -- What some input comes to behind the characters of an open piece.
  abbrev pub comes_to : M → Bool → List ℕ → List ℕ → X
  comes_to m b u s = of_pieces m (cut_from p.bound b u s)

  -- An open piece at the end of the input is the last.
  comes_last : (m : M) (b : Bool) (u : List ℕ) → comes_to m b u [] ≡ k.add (last_says p m b u) (k.none (last_becomes p m b u))
  unfolding cut_from
  comes_last m b [] = k.of_none p.says p.becomes m ∙ sym (k.add_none (k.none m))
  comes_last m b (c ∷ u) =
      let x : Piece = piece b (c ∷ u) Last in
      k.of_cons p.says p.becomes m x [] ∙ ap (k.add (p.says m x)) (k.of_none p.says p.becomes (p.becomes m x))

  -- The same where it is all of the input.
  pub open_comes : (m : M) (b : Bool) (u : List ℕ) → Open p b u → comes_to m b [] u ≡ k.add (last_says p m b u) (k.none (last_becomes p m b u))
  open_comes m b u o = ap (comes_to m b []) (sym (append-nil u)) ∙ ap (of_pieces m) (o.cuts []) ∙ comes_last m b u

  -- ---- a turn behind an open piece

  -- What a turn says, added to what the input that it leaves comes to, with more input behind it.
  abbrev all : Turn M → List ℕ → X
  all t more = k.add t.said (comes_to t.after t.begins [] (t.left ++ more))

  -- No piece is answered for want of room.
  all-waits : (o : Bool) (m : M) (b : Bool) (u s more : List ℕ) → Open p b u → all (waits o m b (u ++ s)) more ≡ comes_to m b u (s ++ more)
  all-waits o m b u s more h =
      k.add_none (comes_to m b [] ((u ++ s) ++ more))
      ∙ ap (comes_to m b []) (append_assoc u s more)
      ∙ ap (of_pieces m) (h.cuts (s ++ more))

  -- A piece is answered.
  all_answered : (room : ℕ) (m : M) (x : Piece) (b : Bool) (u s more : List ℕ)
      → all (turn_from p (room - length (p.says m x)) (p.becomes m x) b u s) more ≡ comes_to (p.becomes m x) b u (s ++ more)
      → all (answered p room m x b u s) more ≡ of_pieces m (x ∷ cut_from p.bound b u (s ++ more))
  all_answered room m x b u s more e =
      let t : Turn M = turn_from p (room - length (p.says m x)) (p.becomes m x) b u s in
      k.add-append (p.says m x) t.said (comes_to t.after t.begins [] (t.left ++ more))
      ∙ ap (k.add (p.says m x)) e
      ∙ sym (k.of_cons p.says p.becomes m x (cut_from p.bound b u (s ++ more)))

  comes_from : (positive : 1 ≤ p.bound) (room : ℕ) (m : M) (b : Bool) (u s more : List ℕ) → Open p b u
      → all (turn_from p room m b u s) more ≡ comes_to m b u (s ++ more)
  comes_from positive room m b u [] more o =
      rw (turn_none p room m b u) (k.add_none (comes_to m b [] (u ++ more)) ∙ ap (of_pieces m) (o.cuts more))
  comes_from positive room m b u (c ∷ s) more o =
      by-character p.bound u c
      (λ e.
      by_order p.most room
      (λ h.
      rw (turn_newline p room m b u c s e h)
      (all_answered room m (piece b u Newline) true [] s more
      (comes_from positive (room - length (p.says m (piece b u Newline))) (p.becomes m (piece b u Newline)) true [] s more (open_none p true))
      ∙ ap (of_pieces m) (sym (cut-newline p.bound b u c (s ++ more) e))))
      (λ h. rw (turn_full_newline p room m b u c s e h) (all-waits false m b u (c ∷ s) more o)))
      (λ e i.
      rw (turn_more p room m b u c s e i)
      (comes_from positive room m b (u ++ c ∷ []) s more (open_more p b u c o e i)
      ∙ ap (of_pieces m) (sym (cut_more p.bound b u c (s ++ more) e i))))
      (λ e i.
      by_order p.most room
      (λ h.
      rw (turn_on p room m b u c s e i h)
      (all_answered room m (piece b u On) false (c ∷ []) s more
      (comes_from positive (room - length (p.says m (piece b u On))) (p.becomes m (piece b u On)) false (c ∷ []) s more (open_one p false c positive e))
      ∙ ap (of_pieces m) (sym (cut_on p.bound b u c (s ++ more) e i))))
      (λ h. rw (turn_full_on p room m b u c s e i h) (all-waits false m b u (c ∷ s) more o)))

module _ {M : Type 0} (p : Program M) where
  -- What is left where no whole piece is, is an open piece.
  open_from : (positive : 1 ≤ p.bound) (room : ℕ) (m : M) (b : Bool) (u s : List ℕ) → Open p b u
      → (turn_from p room m b u s).«open» ≡ true → Open p (turn_from p room m b u s).begins (turn_from p room m b u s).left
  open_from positive room m b u [] o = rw (turn_none p room m b u) (λ t. o)
  open_from positive room m b u (c ∷ s) o =
      by-character p.bound u c
      (λ e.
      by_order p.most room
      (λ k.
      rw (turn_newline p room m b u c s e k)
      (open_from positive (room - length (p.says m (piece b u Newline))) (p.becomes m (piece b u Newline)) true [] s (open_none p true)))
      (λ k. rw (turn_full_newline p room m b u c s e k) (λ t. absurd (false≢true t))))
      (λ e h. rw (turn_more p room m b u c s e h) (open_from positive room m b (u ++ c ∷ []) s (open_more p b u c o e h)))
      (λ e h.
      by_order p.most room
      (λ k.
      rw (turn_on p room m b u c s e h k)
      (open_from positive (room - length (p.says m (piece b u On))) (p.becomes m (piece b u On)) false (c ∷ []) s (open_one p false c positive e)))
      (λ k. rw (turn_full_on p room m b u c s e h k) (λ t. absurd (false≢true t))))

  -- No input is made.
  left_most : (room : ℕ) (m : M) (b : Bool) (u s : List ℕ) → length (turn_from p room m b u s).left ≤ length u + length s
  left_most room m b u [] = rw (turn_none p room m b u) (omega arith)
  left_most room m b u (c ∷ s) =
      by-character p.bound u c
      (λ e.
      by_order p.most room
      (λ k.
      rw (turn_newline p room m b u c s e k)
      (omega (arith, left_most (room - length (p.says m (piece b u Newline))) (p.becomes m (piece b u Newline)) true [] s)))
      (λ k. rw (turn_full_newline p room m b u c s e k) (omega (arith, length-append u (c ∷ s)))))
      (λ e h. rw (turn_more p room m b u c s e h) (omega (arith, left_most room m b (u ++ c ∷ []) s, length-append u (c ∷ []))))
      (λ e h.
      by_order p.most room
      (λ k.
      rw (turn_on p room m b u c s e h k)
      (omega (arith, left_most (room - length (p.says m (piece b u On))) (p.becomes m (piece b u On)) false (c ∷ []) s)))
      (λ k. rw (turn_full_on p room m b u c s e h k) (omega (arith, length-append u (c ∷ s)))))

  -- Where a whole piece is left, and there was room for an answer, a piece was answered.
  less_from : (positive : 1 ≤ p.bound) (room : ℕ) (m : M) (b : Bool) (u s : List ℕ) → p.most ≤ room
      → (turn_from p room m b u s).«open» ≡ false → length (turn_from p room m b u s).left < length u + length s
  less_from positive room m b u [] k = rw (turn_none p room m b u) (λ t. absurd (false≢true (sym t)))
  less_from positive room m b u (c ∷ s) k =
      by-character p.bound u c
      (λ e.
      rw (turn_newline p room m b u c s e k)
      (λ t. omega (arith, left_most (room - length (p.says m (piece b u Newline))) (p.becomes m (piece b u Newline)) true [] s)))
      (λ e h.
      rw (turn_more p room m b u c s e h)
      (λ t. omega (arith, less_from positive room m b (u ++ c ∷ []) s k t, length-append u (c ∷ []))))
      (λ e h.
      rw (turn_on p room m b u c s e h k)
      (λ t. omega (arith, left_most (room - length (p.says m (piece b u On))) (p.becomes m (piece b u On)) false (c ∷ []) s)))

  -- An answer has room, and so has what is said behind it.
  room_answered : (fits : Fits p) (room : ℕ) (m : M) (x : Piece) (b : Bool) (u s : List ℕ) → length x.text ≤ p.bound → p.most ≤ room
      → length (turn_from p (room - length (p.says m x)) (p.becomes m x) b u s).said ≤ room - length (p.says m x)
      → length (answered p room m x b u s).said ≤ room
  room_answered fits room m x b u s h k r =
      omega (arith, length-append (p.says m x) (turn_from p (room - length (p.says m x)) (p.becomes m x) b u s).said, fits.answer_most m x h)

  room_from : (fits : Fits p) (room : ℕ) (m : M) (b : Bool) (u s : List ℕ) → length u ≤ p.bound → length (turn_from p room m b u s).said ≤ room
  room_from fits room m b u [] o = rw (turn_none p room m b u) (omega arith)
  room_from fits room m b u (c ∷ s) o =
      by-character p.bound u c
      (λ e.
      by_order p.most room
      (λ k.
      rw (turn_newline p room m b u c s e k)
      (room_answered fits room m (piece b u Newline) true [] s o k
      (room_from fits (room - length (p.says m (piece b u Newline))) (p.becomes m (piece b u Newline)) true [] s (omega arith))))
      (λ k. rw (turn_full_newline p room m b u c s e k) (omega arith)))
      (λ e h. rw (turn_more p room m b u c s e h) (room_from fits room m b (u ++ c ∷ []) s (omega (arith, length-append u (c ∷ [])))))
      (λ e h.
      by_order p.most room
      (λ k.
      rw (turn_on p room m b u c s e h k)
      (room_answered fits room m (piece b u On) false (c ∷ []) s o k
      (room_from fits (room - length (p.says m (piece b u On))) (p.becomes m (piece b u On)) false (c ∷ []) s fits.positive)))
      (λ k. rw (turn_full_on p room m b u c s e h k) (omega arith)))

-- ---- laws for those who feed

module _ {M : Type 0} (p : Program M) (fits : Fits p) where
  -- Whatever follows, what is said, added to what the input that is left comes to, is what all of it comes to.
  pub turn_comes : {X : Type 0} (k : Measure M X) (room : ℕ) (m : M) (b : Bool) (s more : List ℕ)
      → (let t : Turn M = turn_of p room m b s in k.add t.said (comes_to k p t.after t.begins [] (t.left ++ more)) ≡ comes_to k p m b [] (s ++ more))
  turn_comes k room m b s more = comes_from k p fits.positive room m b [] s more (open_none p b)

  -- So what is said, and then the output on what is left, is the output on all of it.
  pub turn_said : (room : ℕ) (m : M) (b : Bool) (s more : List ℕ)
      → (let t : Turn M = turn_of p room m b s in t.said ++ output_from p t.after t.begins (t.left ++ more) ≡ output_from p m b (s ++ more))
  unfolding output_from
  turn_said room m b s more = turn_comes what_is_said room m b s more

  -- What is said fills the front of a text of that room.
  pub turn_written : (m : M) (b : Bool) (s text : List ℕ)
      → (let said : List ℕ = (turn_of p (length text) m b s).said in (length said ≤ length text) × (take (length said) (laid text 0 said) ≡ said))
  turn_written m b s text =
      let few : length (turn_of p (length text) m b s).said ≤ length text = room_from p fits (length text) m b [] s (omega arith) in
      (few, laid_front text (turn_of p (length text) m b s).said few)

  -- What is left where no whole piece is, is an open piece.
  pub turn_open : (room : ℕ) (m : M) (b : Bool) (s : List ℕ) → (turn_of p room m b s).«open» ≡ true → Open p (turn_of p room m b s).begins (turn_of p room m b s).left
  turn_open room m b s o = open_from p fits.positive room m b [] s (open_none p b) o

  -- It leaves room behind it for more input.
  pub turn_room : (room : ℕ) (m : M) (b : Bool) (s : List ℕ) → (turn_of p room m b s).«open» ≡ true → length (turn_of p room m b s).left ≤ p.bound
  turn_room room m b s o = (turn_open room m b s o).small

  -- What is left is no more than there was.
  pub turn_most : (room : ℕ) (m : M) (b : Bool) (s : List ℕ) → length (turn_of p room m b s).left ≤ length s
  turn_most room m b s = omega (arith, left_most p room m b [] s)

  -- Where a whole piece is left there is less input than before: after so many turns none is.
  pub turn_less : (room : ℕ) (m : M) (b : Bool) (s : List ℕ) → p.most ≤ room → (turn_of p room m b s).«open» ≡ false → length (turn_of p room m b s).left < length s
  turn_less room m b s r o = omega (arith, less_from p fits.positive room m b [] s r o)

  last_most : (m : M) (b : Bool) (rest : List ℕ) → length rest ≤ p.bound → length (last_says p m b rest) ≤ p.most
  last_most m b [] h = omega arith
  last_most m b (c ∷ rest) h = fits.answer_most m (piece b (c ∷ rest) Last) h

  -- What is said of the last piece has room in a text that has room for an answer.
  pub last_written : (m : M) (b : Bool) (rest text : List ℕ) → length rest ≤ p.bound → p.most ≤ length text
      → (let said : List ℕ = last_says p m b rest in (length said ≤ length text) × (take (length said) (laid text 0 said) ≡ said))
  last_written m b rest text h k =
      let few : length (last_says p m b rest) ≤ length text = omega (arith, last_most m b rest h) in
      (few, laid_front text (last_says p m b rest) few)
