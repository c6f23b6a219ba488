-- Laws of open pieces, character by character: what they come to behind more input, and where the first whole piece of an input ends.
-- Assumes nothing.
use mathlib.Core.Path.{◌≡◌, refl, sym, ap, ap₂, subst, ◌∙◌}
use mathlib.Core.Bool.{Bool, true, false}
use mathlib.Core.List.{List, [], ◌∷◌, ◌++◌, append_assoc, append-nil}
use Prim.Native.Nat.{ℕ, suc, ◌+◌, ◌-◌, ◌≤◌, ◌<◌}
use native.Mathlib.Omega.{arith}
use lib.ListN.{length, take, drop, length-append}
use Rattle.std.specs.Prelude.{Option, None, Some}
use lib.Seq.{take-append_seam, drop-append_seam, drop-append-add}
use lib.Dec.{eqb}
use borrow.Author.Tests.{lt-ltb, le-ltb, lt-leb, le-leb}
use Rattle.laws.proofs.Tests.{by-test}
use Rattle.laws.proofs.Order.{by_order}
use Rattle.lines.specs.declared.End.{End}
use Rattle.lines.specs.declared.End.TheVariants.{On, Newline}
use Rattle.lines.specs.declared.Cut.{Cut}
use Rattle.lines.specs.Lines.{newline}
use Rattle.lines.specs.Pieces.{Piece, piece, cut_from}
use Rattle.lines.specs.Cuts.{cut, next_from, next_of, taken_by, ends_line}
use Rattle.lines.specs.Turn.{Program, Turn, waits, saying, turn_from, turn_of}
use Rattle.lines.proofs.Cuts.{next_newline, next_more, next_on, next_none}

-- ---- one character

module _ (bound : ℕ) (b : Bool) (u : List ℕ) (c : ℕ) (x : List ℕ) where
  pub cut-newline : eqb c newline ≡ true → cut_from bound b u (c ∷ x) ≡ piece b u Newline ∷ cut_from bound true [] x
  unfolding cut_from
  cut-newline e = rw e refl

  pub cut_more : eqb c newline ≡ false → length u < bound → cut_from bound b u (c ∷ x) ≡ cut_from bound b (u ++ c ∷ []) x
  unfolding cut_from
  cut_more e h = rw (e, lt-ltb (length u) bound h) refl

  pub cut_on : eqb c newline ≡ false → bound ≤ length u → cut_from bound b u (c ∷ x) ≡ piece b u On ∷ cut_from bound false (c ∷ []) x
  unfolding cut_from
  cut_on e h = rw (e, le-ltb (length u) bound h) refl

module _ {M : Type 0} (p : Program M) where
  -- A piece is answered, and the turn goes on behind it.
  abbrev pub answered : ℕ → M → Piece → Bool → List ℕ → List ℕ → Turn M
  answered room m x b u s = saying (p.says m x) (turn_from p (room - length (p.says m x)) (p.becomes m x) b u s)

  module _ (room : ℕ) (m : M) (b : Bool) (u : List ℕ) where
    pub turn_none : turn_from p room m b u [] ≡ waits true m b u
    unfolding turn_from
    turn_none = refl

    module _ (c : ℕ) (s : List ℕ) where
      pub turn_newline : eqb c newline ≡ true → p.most ≤ room → turn_from p room m b u (c ∷ s) ≡ answered room m (piece b u Newline) true [] s
      unfolding turn_from
      turn_newline e k = rw (e, le-leb p.most room k) refl

      pub turn_more : eqb c newline ≡ false → length u < p.bound → turn_from p room m b u (c ∷ s) ≡ turn_from p room m b (u ++ c ∷ []) s
      unfolding turn_from
      turn_more e h = rw (e, lt-ltb (length u) p.bound h) refl

      pub turn_on : eqb c newline ≡ false → p.bound ≤ length u → p.most ≤ room → turn_from p room m b u (c ∷ s) ≡ answered room m (piece b u On) false (c ∷ []) s
      unfolding turn_from
      turn_on e h k = rw (e, le-ltb (length u) p.bound h, le-leb p.most room k) refl

      pub turn_full_newline : eqb c newline ≡ true → room < p.most → turn_from p room m b u (c ∷ s) ≡ waits false m b (u ++ c ∷ s)
      unfolding turn_from
      turn_full_newline e k = rw (e, lt-leb p.most room k) refl

      pub turn_full_on : eqb c newline ≡ false → p.bound ≤ length u → room < p.most → turn_from p room m b u (c ∷ s) ≡ waits false m b (u ++ c ∷ s)
      unfolding turn_from
      turn_full_on e h k = rw (e, le-ltb (length u) p.bound h, lt-leb p.most room k) refl

-- A character behind an open piece ends it, has room in it, or has none.
pub by-character {ℓ} : {X : Type ℓ} (bound : ℕ) (u : List ℕ) (c : ℕ)
    → (eqb c newline ≡ true → X) → (eqb c newline ≡ false → length u < bound → X) → (eqb c newline ≡ false → bound ≤ length u → X) → X
by-character bound u c f g h =
    by-test (eqb c newline) f (λ e. by_order bound (length u) (λ k. h e k) (λ k. g e k))

-- ---- open pieces

-- Characters that are an open piece at the front of an input: a cut and a turn come to them.
pub record Open {M : Type 0} (p : Program M) (b : Bool) (u : List ℕ) : Type 0 where
  pub small : length u ≤ p.bound
  pub cuts : (x : List ℕ) → cut_from p.bound b [] (u ++ x) ≡ cut_from p.bound b u x
  pub turns : (room : ℕ) (m : M) (x : List ℕ) → turn_from p room m b [] (u ++ x) ≡ turn_from p room m b u x

module _ {M : Type 0} (p : Program M) (b : Bool) where
  pub open_none : Open p b []
  open_none = record { small = omega arith; cuts = λ x. refl; turns = λ room m x. refl }

  pub open_more : (u : List ℕ) (c : ℕ) → Open p b u → eqb c newline ≡ false → length u < p.bound → Open p b (u ++ c ∷ [])
  open_more u c o e h =
      record {
        small = omega (arith, length-append u (c ∷ []));
        cuts = λ x. ap (λ (s : List ℕ). cut_from p.bound b [] s) (append_assoc u (c ∷ []) x) ∙ o.cuts (c ∷ x) ∙ cut_more p.bound b u c x e h;
        turns = λ room m x. ap (λ (s : List ℕ). turn_from p room m b [] s) (append_assoc u (c ∷ []) x) ∙ o.turns room m (c ∷ x) ∙ turn_more p room m b u c x e h;
      }

  pub open_one : (c : ℕ) → 1 ≤ p.bound → eqb c newline ≡ false → Open p b (c ∷ [])
  open_one c h e = open_more [] c open_none e h

-- ---- the first whole piece

-- An input begins with a whole piece of so many characters: the turn that it comes to.
pub record Begins {M : Type 0} (p : Program M) (b : Bool) (s : List ℕ) (n : ℕ) (end : End) : Type 0 where
  pub small : n ≤ p.bound
  pub inside : taken_by n end ≤ length s
  pub some : 1 ≤ taken_by n end
  pub answers : (room : ℕ) (m : M) → p.most ≤ room → turn_of p room m b s ≡ answered p room m (piece b (take n s) end) (ends_line end) [] (drop (taken_by n end) s)
  pub stops : (room : ℕ) (m : M) → room < p.most → turn_of p room m b s ≡ waits false m b s

module _ {M : Type 0} (p : Program M) (positive : 1 ≤ p.bound) (b : Bool) where
  -- A newline behind an open piece.
  begins_newline : (u : List ℕ) (c : ℕ) (s : List ℕ) → Open p b u → eqb c newline ≡ true → Begins p b (u ++ c ∷ s) (length u) Newline
  begins_newline u c s o e =
      let front : take (length u) (u ++ c ∷ s) ≡ u = take-append_seam u (c ∷ s) in
      let behind : drop (length u + 1) (u ++ c ∷ s) ≡ s = drop-append-add u (c ∷ s) 1 in
      record {
        small = o.small;
        inside = omega (arith, length-append u (c ∷ s));
        some = omega arith;
        answers = λ room m k. o.turns room m (c ∷ s) ∙ turn_newline p room m b u c s e k ∙ ap₂ (λ (l r : List ℕ). answered p room m (piece b l Newline) true [] r) (sym front) (sym behind);
        stops = λ room m k. o.turns room m (c ∷ s) ∙ turn_full_newline p room m b u c s e k;
      }

  -- A character that has no room in an open piece.
  begins_on : (u : List ℕ) (c : ℕ) (s : List ℕ) → Open p b u → eqb c newline ≡ false → p.bound ≤ length u → Begins p b (u ++ c ∷ s) (length u) On
  begins_on u c s o e h =
      let front : take (length u) (u ++ c ∷ s) ≡ u = take-append_seam u (c ∷ s) in
      let behind : drop (length u) (u ++ c ∷ s) ≡ c ∷ s = drop-append_seam u (c ∷ s) in
      let again : (room : ℕ) (m : M) → answered p room m (piece b u On) false (c ∷ []) s ≡ answered p room m (piece b u On) false [] (c ∷ s) =
      λ room m. ap (λ (t : Turn M). saying (p.says m (piece b u On)) t) (sym ((open_one p false c positive e).turns (room - length (p.says m (piece b u On))) (p.becomes m (piece b u On)) s)) in
      record {
        small = o.small;
        inside = omega (arith, length-append u (c ∷ s));
        some = omega arith;
        answers = λ room m k. o.turns room m (c ∷ s) ∙ turn_on p room m b u c s e h k ∙ again room m ∙ ap₂ (λ (l r : List ℕ). answered p room m (piece b l On) false [] r) (sym front) (sym behind);
        stops = λ room m k. o.turns room m (c ∷ s) ∙ turn_full_on p room m b u c s e h k;
      }

  -- What the front of an input is known to be.
  abbrev Found : List ℕ → Option Cut → Type 0
  Found s None = Open p b s
  Found s (Some r) = Begins p b s r.count r.end

  found_from : (u s : List ℕ) → Open p b u → Found (u ++ s) (next_from p.bound (length u) s)
  found_from u [] o = rw (next_none p.bound (length u), append-nil u) o
  found_from u (c ∷ s) o =
      by-character p.bound u c
      (λ e. rw (next_newline p.bound (length u) c s e) (begins_newline u c s o e))
      (λ e h.
      let size : length (u ++ c ∷ []) ≡ suc (length u) = omega (arith, length-append u (c ∷ [])) in
      rw (next_more p.bound (length u) c s e h)
      (subst (λ (n : ℕ). Found (u ++ c ∷ s) (next_from p.bound n s)) size
      (subst (λ (r : List ℕ). Found r (next_from p.bound (length (u ++ c ∷ [])) s)) (append_assoc u (c ∷ []) s)
      (found_from (u ++ c ∷ []) s (open_more p b u c o e h)))))
      (λ e h. rw (next_on p.bound (length u) c s e h) (begins_on u c s o e h))

  -- Where a whole piece is found.
  pub found_whole : (s : List ℕ) (n : ℕ) (end : End) → next_of p.bound s ≡ Some (cut n end) → Begins p b s n end
  found_whole s n end e = subst (λ (r : Option Cut). Found s r) e (found_from [] s (open_none p b))

  -- Where none is.
  pub found_none : (s : List ℕ) → next_of p.bound s ≡ None → Open p b s
  found_none s e = subst (λ (r : Option Cut). Found s r) e (found_from [] s (open_none p b))
