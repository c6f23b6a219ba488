-- Laws of a program's walk over the whole pieces of an input, so that its own proof says only what its step does; and of the input at the front of its buffer.
-- The invariant of the loop is `Walking`: `walking_first` begins it, `walking_next` and `walking_less` go on with what the step said, `walking_full` and `walking_more` end it.
-- Assumes nothing.
use mathlib.Core.Path.{◌≡◌, refl, sym, ap, ap₂, subst, ◌∙◌}
use mathlib.Core.Bool.{Bool, true, false}
use mathlib.Core.List.{List, [], ◌∷◌, append-nil}
use Prim.Native.Nat.{ℕ, ◌+◌, ◌-◌, min, ◌≤◌, ◌<◌}
use native.Mathlib.Omega.{arith}
use lib.ListN.{length, take, drop, length-append, length-take, length-drop}
use lib.Seq.{drop-drop}
use Rattle.std.specs.Prelude.{Option, None, Some}
use Rattle.octets.specs.Copy.{laid}
use Rattle.octets.proofs.Laid.{laid-length, laid-append, laid_none}
use Rattle.lines.specs.declared.Cut.{Cut}
use Rattle.lines.specs.declared.End.{End}
use Rattle.lines.specs.declared.End.TheVariants.{On, Last}
use Rattle.lines.specs.declared.Walk.{Walk}
use Rattle.lines.specs.declared.Progress.{Progress}
use Rattle.lines.specs.Pieces.{Piece, piece}
use Rattle.lines.specs.Cuts.{cut, next_of, rest_of, left_of, taken_by, ends_line, passed_of, carried_of}
use Rattle.lines.specs.Turn.{Program, Turn, waits, saying, turn_of}
use Rattle.lines.specs.Feed.{Walked, Feeds, Finishes}
use Rattle.lines.proofs.Opening.{Open, Begins, found_whole, found_none, turn_none}
use Rattle.lines.proofs.Turns.{Fits}

-- ---- the walk

-- Of a whole turn, the rest is still to be said, behind what a text has.
pub record Rest {M : Type 0} (whole rest : Turn M) (text₀ : List ℕ) (at : ℕ) (text : List ℕ) : Type 0 where
  pub at_is : at + length rest.said ≡ length whole.said
  pub after_is : rest.after ≡ whole.after
  pub begins_is : rest.begins ≡ whole.begins
  pub left_is : rest.left ≡ whole.left
  pub open_is : rest.«open» ≡ whole.«open»
  pub text_is : laid text at rest.said ≡ laid text₀ 0 whole.said

module _ {M : Type 0} where
  -- One answer less.
  rest_next : (whole t t' : Turn M) (text₀ text text' answer : List ℕ) (at at' : ℕ) → Rest whole t text₀ at text → t ≡ saying answer t'
      → at' ≡ at + length answer → text' ≡ laid text at answer → Rest whole t' text₀ at' text'
  rest_next whole t t' text₀ text text' answer at at' r e f g =
      record {
        at_is = omega (arith, f, r.at_is, ap (λ (u : Turn M). length u.said) e, length-append answer t'.said);
        after_is = sym (ap (λ (u : Turn M). u.after) e) ∙ r.after_is;
        begins_is = sym (ap (λ (u : Turn M). u.begins) e) ∙ r.begins_is;
        left_is = sym (ap (λ (u : Turn M). u.left) e) ∙ r.left_is;
        open_is = sym (ap (λ (u : Turn M). u.«open») e) ∙ r.open_is;
        text_is =
            ap₂ (λ (d : List ℕ) (n : ℕ). laid d n t'.said) g f
            ∙ laid-append text at answer t'.said
            ∙ ap (λ (u : Turn M). laid text at u.said) (sym e)
            ∙ r.text_is;
      }

-- A place of the walk: the whole turn is what is written so far, and then the turn of what is left.
pub record Walking {M : Type 0} (p : Program M) (whole : Turn M) (input text₀ : List ℕ) (w : Walk) (m : M) (text : List ℕ) : Type 0 where
  pub inside : w.from ≤ length input
  pub going : w.«open» ≡ false
  pub room : w.at ≤ length text
  pub size : length text ≡ length text₀
  pub rest : Rest whole (turn_of p (length text₀ - w.at) m w.begins (drop w.from input)) text₀ w.at text

-- Where a walk begins.
abbrev pub first_walk : Bool → Walk
first_walk begins = record { from = 0; begins = begins; «open» = false; at = 0 }

-- Where a walk ends that finds no whole piece.
abbrev pub open_walk : Walk → Walk
open_walk w = record { from = w.from; begins = w.begins; «open» = true; at = w.at }

module _ {M : Type 0} (p : Program M) where
  pub walking_first : (input text : List ℕ) (begins : Bool) (m : M) → Walking p (turn_of p (length text) m begins input) input text (first_walk begins) m text
  walking_first input text begins m =
      let whole : Turn M = turn_of p (length text) m begins input in
      let room : length text ≡ length text - 0 = omega arith in
      record {
        inside = omega arith;
        going = refl;
        room = omega arith;
        size = refl;
        rest = subst (λ (n : ℕ). Rest whole (turn_of p n m begins input) text 0 text) room (record { at_is = omega arith; after_is = refl; begins_is = refl; left_is = refl; open_is = refl; text_is = refl });
      }

  -- The walk ends where nothing more is said.
  walked : (whole : Turn M) (input text₀ : List ℕ) (w : Walk) (m : M) (text : List ℕ) (o : Bool) → Walking p whole input text₀ w m text
      → turn_of p (length text₀ - w.at) m w.begins (drop w.from input) ≡ waits o m w.begins (drop w.from input)
      → Walked whole input text₀ (record { from = w.from; begins = w.begins; «open» = o; at = w.at }) m text
  walked whole input text₀ w m text o k e =
      record {
        left_is = sym (ap (λ (u : Turn M). u.left) e) ∙ k.rest.left_is;
        begins_is = sym (ap (λ (u : Turn M). u.begins) e) ∙ k.rest.begins_is;
        open_is = sym (ap (λ (u : Turn M). u.«open») e) ∙ k.rest.open_is;
        at_is = omega (arith, k.rest.at_is, ap (λ (u : Turn M). length u.said) e);
        after_is = sym (ap (λ (u : Turn M). u.after) e) ∙ k.rest.after_is;
        text_is = sym (laid_none text w.at) ∙ ap (λ (u : Turn M). laid text w.at u.said) (sym e) ∙ k.rest.text_is;
      }

  module _ (fits : Fits p) {whole : Turn M} {input text₀ : List ℕ} {w : Walk} {m : M} {text : List ℕ} (k : Walking p whole input text₀ w m text) where
    -- No whole piece is left.
    pub walking_more : next_of p.bound (drop w.from input) ≡ None → Walked whole input text₀ (open_walk w) m text
    walking_more e =
        let o : Open p w.begins (drop w.from input) = found_none p fits.positive w.begins (drop w.from input) e in
        walked whole input text₀ w m text true k
        (ap (λ (s : List ℕ). turn_of p (length text₀ - w.at) m w.begins s) (sym (append-nil (drop w.from input)))
        ∙ o.turns (length text₀ - w.at) m []
        ∙ turn_none p (length text₀ - w.at) m w.begins (drop w.from input))

    module _ {n : ℕ} {end : End} (e : next_of p.bound (drop w.from input) ≡ Some (cut n end)) where
      begins : Begins p w.begins (drop w.from input) n end
      begins = found_whole p fits.positive w.begins (drop w.from input) n end e

      -- The next piece.
      abbrev next_piece : Piece
      next_piece = piece w.begins (take n (drop w.from input)) end

      -- There is no room for another answer.
      pub walking_full : length text - w.at < p.most → Walked whole input text₀ w m text
      walking_full h =
          subst (λ (o : Bool). Walked whole input text₀ (record { from = w.from; begins = w.begins; «open» = o; at = w.at }) m text) (sym k.going)
          (walked whole input text₀ w m text false k (begins.stops (length text₀ - w.at) m (omega (arith, h, k.size))))

      place : (passed_of input w n end 0).from ≡ w.from + taken_by n end
      place = omega (arith, begins.inside, length-drop w.from input, k.inside)

      -- A piece is passed.
      pub walking_less : (at : ℕ) (w' : Walk) → w' ≡ passed_of input w n end at → length input - w'.from < length input - w.from
      walking_less at w' f = omega (arith, ap (λ (v : Walk). v.from) f, place, begins.some, begins.inside, length-drop w.from input, k.inside)

      -- A piece is answered.
      answered_next : (m' : M) (at : ℕ) (text' : List ℕ) → p.most ≤ length text - w.at
          → m' ≡ p.becomes m next_piece → at ≡ min (w.at + length (p.says m next_piece)) (length text + 1) → text' ≡ laid text w.at (p.says m next_piece)
          → Walking p whole input text₀ (passed_of input w n end at) m' text'
      answered_next m' at text' h f g i =
          let answer : List ℕ = p.says m next_piece in
          let few : length answer ≤ p.most = fits.answer_most m next_piece (omega (arith, begins.small, length-take n (drop w.from input))) in
          let behind : at ≡ w.at + length answer = omega (arith, g, few, h, k.room) in
          let left : length text₀ - w.at - length answer ≡ length text₀ - at = omega (arith, behind) in
          let rest : List ℕ = drop (passed_of input w n end at).from input in
          let input_left : drop (taken_by n end) (drop w.from input) ≡ rest = drop-drop (taken_by n end) w.from input ∙ ap (λ (i : ℕ). drop i input) (sym place) in
          let turns : turn_of p (length text₀ - w.at) m w.begins (drop w.from input) ≡ saying answer (turn_of p (length text₀ - at) m' (ends_line end) rest) =
          begins.answers (length text₀ - w.at) m (omega (arith, h, k.size))
          ∙ ap₂ (λ (r : ℕ) (s : List ℕ). saying answer (turn_of p r (p.becomes m next_piece) (ends_line end) s)) left input_left
          ∙ ap (λ (o : M). saying answer (turn_of p (length text₀ - at) o (ends_line end) rest)) (sym f) in
          let size : length text' ≡ length text = ap length i ∙ laid-length text w.at answer in
          record {
            inside = omega arith;
            going = refl;
            room = omega (arith, size, behind, few, h, k.room);
            size = size ∙ k.size;
            rest = rest_next whole (turn_of p (length text₀ - w.at) m w.begins (drop w.from input)) (turn_of p (length text₀ - at) m' (ends_line end) rest) text₀ text text' answer w.at at k.rest turns behind i;
          }

      pub walking_next : (u : List ℕ) (m' : M) (at : ℕ) (text' : List ℕ) (w' : Walk) → p.most ≤ length text - w.at → u ≡ take n (drop w.from input)
          → m' ≡ p.becomes m (piece w.begins u end) → at ≡ min (w.at + length (p.says m (piece w.begins u end))) (length text + 1) → text' ≡ laid text w.at (p.says m (piece w.begins u end))
          → w' ≡ passed_of input w n end at → Walking p whole input text₀ w' m' text'
      walking_next u m' at text' w' h d f g i e =
          subst (λ (v : Walk). Walking p whole input text₀ v m' text') (sym e)
          (answered_next m' at text' h
          (f ∙ ap (λ (t : List ℕ). p.becomes m (piece w.begins t end)) d)
          (g ∙ ap (λ (t : List ℕ). min (w.at + length (p.says m (piece w.begins t end))) (length text + 1)) d)
          (i ∙ ap (λ (t : List ℕ). laid text w.at (p.says m (piece w.begins t end))) d))

-- ---- the input at the front of a buffer

module _ {M : Type 0} where
  -- From a walk over that input to what is kept of it.
  pub feeds : (turn : List ℕ → Turn M) (buffer text : List ℕ) (have : ℕ) (front : List ℕ) (w : Walk) (after : M) (text' buffer' : List ℕ) (r : Progress)
      → front ≡ take have buffer → Walked (turn front) front text w after text' → r ≡ carried_of have buffer w → buffer' ≡ laid buffer 0 (left_of w.from have buffer)
      → Feeds (turn (take have buffer)) buffer text r after buffer' text'
  feeds turn buffer text have front w after text' buffer' r d k e f =
      let l : Walked (turn (take have buffer)) (take have buffer) text w after text' = subst (λ (s : List ℕ). Walked (turn s) s text w after text') d k in
      record {
        have_is = ap (λ (q : Progress). q.have) e ∙ ap length l.left_is;
        begins_is = ap (λ (q : Progress). q.begins) e ∙ l.begins_is;
        open_is = ap (λ (q : Progress). q.«open») e ∙ l.open_is;
        at_is = ap (λ (q : Progress). q.at) e ∙ l.at_is;
        after_is = l.after_is;
        text_is = l.text_is;
        input_is = f ∙ ap (λ (s : List ℕ). laid buffer 0 s) l.left_is;
      }

  -- ---- the end of the input

  module _ (p : Program M) (m : M) (begins : Bool) (text : List ℕ) where
    nothing_left : (rest : List ℕ) → rest_of rest ≡ None → Finishes p m begins rest text 0 m text
    nothing_left [] e = record { at_is = omega arith; after_is = refl; text_is = sym (laid_none text 0) }
    nothing_left (c ∷ rest) e = let z : ◌≡◌ {A = ℕ} 0 1 = cc in absurd (omega arith)

    -- Nothing is left.
    pub finishes_none : (front rest : List ℕ) → front ≡ rest → rest_of front ≡ None → Finishes p m begins rest text 0 m text
    finishes_none front rest d e = subst (λ (s : List ℕ). Finishes p m begins s text 0 m text) d (nothing_left front e)

    abbrev end_in : Option Cut → End
    end_in None = On
    end_in (Some r) = r.end

    piece_left : (rest : List ℕ) (n : ℕ) (end : End) (at : ℕ) (after : M) (text' : List ℕ) → rest_of rest ≡ Some (cut n end)
        → after ≡ p.becomes m (piece begins rest end) → at ≡ min (0 + length (p.says m (piece begins rest end))) (length text + 1) → text' ≡ laid text 0 (p.says m (piece begins rest end))
        → Finishes p m begins rest text at after text'
    piece_left [] n end at after text' e f g h = let z : ◌≡◌ {A = ℕ} 0 1 = cc in absurd (omega arith)
    piece_left (c ∷ rest) n end at after text' e f g h =
        let last : end ≡ Last = sym (ap end_in e) in
        record {
          at_is = omega (arith, g, ap (λ (x : End). length (p.says m (piece begins (c ∷ rest) x))) last);
          after_is = f ∙ ap (λ (x : End). p.becomes m (piece begins (c ∷ rest) x)) last;
          text_is = h ∙ ap (λ (x : End). laid text 0 (p.says m (piece begins (c ∷ rest) x))) last;
        }

    -- A last piece is.
    pub finishes_last : (front rest : List ℕ) (n : ℕ) (end : End) (at : ℕ) (after : M) (text' : List ℕ) → front ≡ rest → rest_of front ≡ Some (cut n end)
        → after ≡ p.becomes m (piece begins front end) → at ≡ min (0 + length (p.says m (piece begins front end))) (length text + 1) → text' ≡ laid text 0 (p.says m (piece begins front end))
        → Finishes p m begins rest text at after text'
    finishes_last front rest n end at after text' d e f g h = subst (λ (s : List ℕ). Finishes p m begins s text at after text') d (piece_left front n end at after text' e f g h)
