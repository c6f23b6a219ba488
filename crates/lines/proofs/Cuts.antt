-- Laws of what stands at the front of an input, character by character.
-- Assumes nothing.
use mathlib.Core.Path.{◌≡◌, refl, sym, ap, ◌∙◌}
use mathlib.Core.Bool.{Bool, true, false, cond}
use mathlib.Core.List.{List, [], ◌∷◌}
use Prim.Native.Nat.{ℕ, zero, suc, min, ◌+◌, ◌≤◌, ◌<◌}
use native.Mathlib.Omega.{arith}
use lib.ListN.{length, take}
use lib.Seq.{take_all}
use lib.Dec.{eqb, ltb}
use borrow.Author.Tests.{lt-ltb, le-ltb}
use Rattle.lines.specs.declared.End.TheVariants.{On, Newline}
use Rattle.std.specs.Prelude.{Option, None, Some}
use Rattle.std.specs.Option.{option_map}
use Rattle.std.specs.List.{position, position_or_len}
use Rattle.laws.proofs.Order.{by_order}
use Rattle.laws.proofs.Tests.{by-test}
use Rattle.lines.specs.declared.Cut.{Cut}
use Rattle.lines.specs.Lines.{newline}
use Rattle.lines.specs.Cuts.{cut, next_from, next_of}

-- ---- the first whole piece

module _ (bound passed c : ℕ) (x : List ℕ) where
  pub next_newline : eqb c newline ≡ true → next_from bound passed (c ∷ x) ≡ Some (cut passed Newline)
  unfolding next_from
  next_newline e = rw e refl

  pub next_more : eqb c newline ≡ false → passed < bound → next_from bound passed (c ∷ x) ≡ next_from bound (suc passed) x
  unfolding next_from
  next_more e h = rw (e, lt-ltb passed bound h) refl

  pub next_on : eqb c newline ≡ false → bound ≤ passed → next_from bound passed (c ∷ x) ≡ Some (cut passed On)
  unfolding next_from
  next_on e h = rw (e, le-ltb passed bound h) refl

pub next_none : (bound passed : ℕ) → next_from bound passed [] ≡ None
unfolding next_from
next_none bound passed = refl

-- ---- a search for the first newline

abbrev pub is_newline : ℕ → Bool
is_newline c = eqb c newline

here : (c : ℕ) (s : List ℕ) → eqb c newline ≡ true → position is_newline (c ∷ s) ≡ Some 0
here c s e = rw (e, lt-ltb 0 (length (c ∷ s)) (omega arith)) refl

behind : (c : ℕ) (s : List ℕ) → eqb c newline ≡ false → position is_newline (c ∷ s) ≡ option_map suc (position is_newline s)
behind c s e =
    let n : ℕ = position_or_len is_newline s in
    by_order (length s) n
    (λ h. rw (e, le-ltb (1 + n) (suc (length s)) (omega arith), le-ltb n (length s) h) refl)
    (λ h. rw (e, lt-ltb (1 + n) (suc (length s)) (omega arith), lt-ltb n (length s) h) (ap Some (omega arith)))

-- Among the characters that a piece and its end may have it finds where the piece ends; where it finds none, the piece ends at the character that has no room in it.
abbrev pub found_at : ℕ → ℕ → Bool → Option ℕ → Option Cut
found_at bound passed more (Some n) = Some (cut (passed + n) Newline)
found_at bound passed more None = cond more (Some (cut bound On)) None

less_one : (m n : ℕ) → ltb (suc m) (suc n) ≡ ltb m n
less_one m n = by_order n m (λ h. rw (le-ltb (suc m) (suc n) (omega arith), le-ltb m n h) refl) (λ h. rw (lt-ltb (suc m) (suc n) (omega arith), lt-ltb m n h) refl)

one_passed : (bound passed : ℕ) (more : Bool) (r : Option ℕ) → found_at bound (suc passed) more r ≡ found_at bound passed more (option_map suc r)
one_passed bound passed more None = refl
one_passed bound passed more (Some n) = ap (λ (k : ℕ). Some (cut k Newline)) (omega arith)

next_found : (bound passed room : ℕ) (s : List ℕ) → passed + room ≡ bound
    → next_from bound passed s ≡ found_at bound passed (ltb room (length s)) (position is_newline (take (suc room) s))
next_found bound passed room [] h = rw (le-ltb room 0 (omega arith)) (next_none bound passed)
next_found bound passed zero (c ∷ s) h =
    by-test (eqb c newline)
    (λ e. rw (here c [] e) (next_newline bound passed c s e ∙ ap (λ (n : ℕ). Some (cut n Newline)) (omega arith)))
    (λ e.
    rw (behind c [] e, lt-ltb 0 (length (c ∷ s)) (omega arith))
    (next_on bound passed c s e (omega arith) ∙ ap (λ (n : ℕ). Some (cut n On)) (omega arith)))
next_found bound passed (suc room) (c ∷ s) h =
    by-test (eqb c newline)
    (λ e. rw (here c (take (suc room) s) e) (next_newline bound passed c s e ∙ ap (λ (n : ℕ). Some (cut n Newline)) (omega arith)))
    (λ e.
    rw (less_one room (length s))
    (next_more bound passed c s e (omega arith)
    ∙ next_found bound (suc passed) room s (omega arith)
    ∙ one_passed bound passed (ltb room (length s)) (position is_newline (take (suc room) s))
    ∙ ap (found_at bound passed (ltb room (length s))) (sym (behind c (take (suc room) s) e))))

-- The same where counts are numbers up to a greatest one, and no input has more characters.
module _ (bound most : ℕ) {count : ℕ} {s rest window : List ℕ} {found : Option ℕ}
    (d : rest ≡ s) (e : count ≡ min (bound + 1) most) (f : window ≡ take count rest) (g : found ≡ position is_newline window) (h : length rest ≤ most) where
  window_front : window ≡ take (suc bound) rest
  window_front =
      by_order (bound + 1) most
      (λ k. let same : count ≡ suc bound = omega arith in f ∙ ap (λ (n : ℕ). take n rest) same)
      (λ k. f ∙ take_all count rest (omega arith) ∙ sym (take_all (suc bound) rest (omega arith)))

  whole : found_at bound 0 (ltb bound (length rest)) found ≡ next_of bound s
  whole =
      ap (found_at bound 0 (ltb bound (length rest))) (g ∙ ap (position is_newline) window_front)
      ∙ sym (next_found bound 0 bound rest (omega arith))
      ∙ ap (next_of bound) d

  pub whole_newline : {n : ℕ} → found ≡ Some n → Some (cut n Newline) ≡ next_of bound s
  whole_newline {n} i =
      ap (λ (k : ℕ). Some (cut k Newline)) (omega arith) ∙ ap (found_at bound 0 (ltb bound (length rest))) (sym i) ∙ whole

  pub whole_on : found ≡ None → bound < length rest → Some (cut bound On) ≡ next_of bound s
  whole_on i k = rw (i, lt-ltb bound (length rest) k) at whole

  pub whole_none : found ≡ None → length rest ≤ bound → None ≡ next_of bound s
  whole_none i k = rw (i, le-ltb bound (length rest) k) at whole
