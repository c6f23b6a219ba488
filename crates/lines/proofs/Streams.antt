-- However an input is divided into parts, what they come to in turn, and then the last piece, is what the whole comes to: for any program over pieces and any measure.
-- Assumes nothing.
use mathlib.Core.Path.{◌≡◌, refl, sym, ap, ◌∙◌}
use mathlib.Core.Bool.{Bool, true}
use mathlib.Core.List.{List, [], ◌∷◌, ◌++◌, append_assoc, append-nil}
use Prim.Native.Nat.{ℕ, zero, suc, ◌+◌, ◌≤◌, ◌<◌}
use native.Mathlib.Omega.{arith}
use lib.ListN.{length, replicate, length-append}
use Rattle.laws.proofs.Tests.{by-test}
use Rattle.laws.specs.Fold.{joined}
use Rattle.lines.specs.Turn.{Program, Turn, waits, output_from, turn_of, last_says, last_becomes, turns_of}
use Rattle.laws.proofs.Fold.{joined_more}
use Rattle.lines.proofs.Measures.{Measure, what_is_said}
use Rattle.lines.proofs.Opening.{Open, open_none, turn_none}
use Rattle.lines.proofs.Turns.{Fits, comes_to, open_comes, turn_comes, turn_open, turn_most, turn_less}

module _ {M : Type 0} (p : Program M) (fits : Fits p) where
  -- What is left where no whole piece is, is an open piece.
  turns_open : (room : ℕ) («open» : Bool) (m : M) (b : Bool) (left : List ℕ) (parts : List (List ℕ)) → («open» ≡ true → Open p b left)
      → (let t : Turn M = turns_of p room «open» m b left parts in t.«open» ≡ true → Open p t.begins t.left)
  unfolding turns_of
  turns_open room «open» m b left [] h o = h o
  turns_open room «open» m b left (part ∷ parts) h o =
      let t : Turn M = turn_of p room m b (left ++ part) in
      turns_open room t.«open» t.after t.begins t.left parts (turn_open p fits room m b (left ++ part)) o

  -- ---- turns without more input

  -- An open piece stays one.
  still_open : (room : ℕ) (m : M) (b : Bool) (left : List ℕ) → Open p b left → turn_of p room m b (left ++ []) ≡ waits true m b left
  still_open room m b left h = h.turns room m [] ∙ turn_none p room m b left

  stays_open : (room n : ℕ) («open» : Bool) (m : M) (b : Bool) (left : List ℕ) → «open» ≡ true → Open p b left → (turns_of p room «open» m b left (replicate n [])).«open» ≡ true
  unfolding turns_of
  stays_open room zero «open» m b left o h = o
  stays_open room (suc n) «open» m b left o h = rw (still_open room m b left h) (stays_open room n true m b left refl h)

  -- Turns without more input end with no whole piece left: there are no more of them than characters.
  drained : (room n : ℕ) («open» : Bool) (m : M) (b : Bool) (left : List ℕ) → p.most ≤ room → length left < n → (turns_of p room «open» m b left (replicate n [])).«open» ≡ true
  unfolding turns_of
  drained room zero «open» m b left r h = absurd (omega arith)
  drained room (suc n) «open» m b left r h =
      let t : Turn M = turn_of p room m b (left ++ []) in
      by-test t.«open»
      (λ o. stays_open room n t.«open» t.after t.begins t.left o (turn_open p fits room m b (left ++ []) o))
      (λ o. drained room n t.«open» t.after t.begins t.left r (omega (arith, turn_less p fits room m b (left ++ []) r o, length-append left [])))

  ended : (room n : ℕ) («open» : Bool) (m : M) (b : Bool) (left : List ℕ) (parts : List (List ℕ)) → p.most ≤ room → length left + length (joined parts) < n
      → (turns_of p room «open» m b left (parts ++ replicate n [])).«open» ≡ true
  unfolding turns_of joined
  ended room n «open» m b left [] r h = drained room n «open» m b left r (omega arith)
  ended room n «open» m b left (part ∷ parts) r h =
      let t : Turn M = turn_of p room m b (left ++ part) in
      ended room n t.«open» t.after t.begins t.left parts r
      (omega (arith, turn_most p fits room m b (left ++ part), length-append left part, length-append part (joined parts)))

  -- ---- any measure

  module _ {X : Type 0} (k : Measure M X) where
    -- However an input is divided, what is said, added to what the input that is left comes to, is what the whole comes to.
    turns_come : (room : ℕ) («open» : Bool) (m : M) (b : Bool) (left : List ℕ) (parts : List (List ℕ))
        → (let t : Turn M = turns_of p room «open» m b left parts in k.add t.said (comes_to k p t.after t.begins [] t.left) ≡ comes_to k p m b [] (left ++ joined parts))
    unfolding turns_of joined
    turns_come room «open» m b left [] = k.add_none (comes_to k p m b [] left) ∙ ap (comes_to k p m b []) (sym (append-nil left))
    turns_come room «open» m b left (part ∷ parts) =
        let t : Turn M = turn_of p room m b (left ++ part) in
        let u : Turn M = turns_of p room t.«open» t.after t.begins t.left parts in
        k.add-append t.said u.said (comes_to k p u.after u.begins [] u.left)
        ∙ ap (k.add t.said) (turns_come room t.«open» t.after t.begins t.left parts)
        ∙ turn_comes p fits k room m b (left ++ part) (joined parts)
        ∙ ap (comes_to k p m b []) (append_assoc left part (joined parts))

    -- However an input is divided: what its parts come to in turn, and then turns without more input until no whole piece is left, and then the last piece, is what the whole comes to.
    pub stream_comes : (room n : ℕ) (m : M) (parts : List (List ℕ)) → p.most ≤ room → length (joined parts) < n
        → (let t : Turn M = turns_of p room true m true [] (parts ++ replicate n []) in
        k.add t.said (k.add (last_says p t.after t.begins t.left) (k.none (last_becomes p t.after t.begins t.left))) ≡ comes_to k p m true [] (joined parts))
    stream_comes room n m parts r h =
        let all : List (List ℕ) = parts ++ replicate n [] in
        let t : Turn M = turns_of p room true m true [] all in
        let o : Open p t.begins t.left = turns_open room true m true [] all (λ e. open_none p true) (ended room n true m true [] parts r (omega arith)) in
        ap (k.add t.said) (sym (open_comes k p t.after t.begins t.left o))
        ∙ turns_come room true m true [] all
        ∙ ap (comes_to k p m true []) (joined_more parts n)

  -- So what is said of the parts in turn, and then in turns without more input, and then of the last piece, is the output on the whole.
  pub stream_whole : (room n : ℕ) (m : M) (parts : List (List ℕ)) → p.most ≤ room → length (joined parts) < n
      → (let t : Turn M = turns_of p room true m true [] (parts ++ replicate n []) in t.said ++ last_says p t.after t.begins t.left ≡ output_from p m true (joined parts))
  unfolding output_from
  stream_whole room n m parts r h =
      let t : Turn M = turns_of p room true m true [] (parts ++ replicate n []) in
      ap (λ (s : List ℕ). t.said ++ s) (sym (append-nil (last_says p t.after t.begins t.left))) ∙ stream_comes what_is_said room n m parts r h
