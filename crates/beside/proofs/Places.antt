-- Where a frame and other octets part, octet by octet.
-- Assumes nothing.
use mathlib.Core.Path.{◌≡◌, refl, sym, ap, ap₂, ◌∙◌}
use mathlib.Core.Bool.{true, false, not, ◌||◌}
use mathlib.Core.List.{List, [], ◌∷◌}
use Prim.Native.Nat.{ℕ, ◌+◌, ◌/◌, ◌≤◌, ◌<◌, min}
use native.Mathlib.Numerals.{add-one}
use native.Mathlib.Omega.{arith}
use lib.ListN.{length, get_or, drop, drop_of_length-le}
use lib.Dec.{eqb}
use borrow.Author.Tests.{not-true, not-false, eq-eqb, ne_eqb}
use Rattle.laws.proofs.Lists.{drop_next}
use Rattle.laws.proofs.Order.{by_order}
use Rattle.characters.specs.Digits.{octets_in}
use Rattle.characters.proofs.Texts.{octets_length}
use Rattle.beside.specs.Beside.{is_time, parting_from, parting_of, agrees}

module _ (due found : List ℕ) (k : ℕ) {x y : ℕ} (h : k < length due) (l : k < length found) (d : x ≡ get_or due k 0) (e : y ≡ get_or found k 0) where
  here : parting_from k (drop k due) (drop k found) ≡ parting_from k (x ∷ drop (k + 1) due) (y ∷ drop (k + 1) found)
  here = rw (d, e) (ap₂ (λ (a b : List ℕ). parting_from k a b) (drop_next due k h) (drop_next found k l))

  -- They part here.
  pub parts_here : not (is_time k || eqb x y) ≡ true → k ≡ parting_from k (drop k due) (drop k found)
  unfolding parting_from
  parts_here t = sym (here ∙ rw (not-true (is_time k || eqb x y) t) refl)

  -- They do not, and where they part stands further on.
  pub parts_later : not (is_time k || eqb x y) ≡ false → parting_from (k + 1) (drop (k + 1) due) (drop (k + 1) found) ≡ parting_from k (drop k due) (drop k found)
  unfolding parting_from
  parts_later t =
      sym (here ∙ rw (not-false (is_time k || eqb x y) t) (ap (λ (n : ℕ). parting_from n (drop (k + 1) due) (drop (k + 1) found)) (sym (add-one k))))

ended : (k : ℕ) (s : List ℕ) → parting_from k s [] ≡ k
unfolding parting_from
ended k [] = refl
ended k (x ∷ s) = refl

-- One of them ends here.
pub parts_end : (due found : List ℕ) (k : ℕ) → min (length due) (length found) ≤ k → k ≡ parting_from k (drop k due) (drop k found)
unfolding parting_from
parts_end due found k h =
    by_order (length due) k
    (λ past. ap (λ (s : List ℕ). parting_from k s (drop k found)) (sym (drop_of_length-le due past)))
    (λ more. sym (ap (λ (s : List ℕ). parting_from k (drop k due) s) (drop_of_length-le found (omega arith)) ∙ ended k (drop k due)))

-- They agree where they part at the frame's end, and neither is longer.
pub parted_before : (due found : List ℕ) {k : ℕ} → k ≡ parting_of due found → (k ≡ length due → ⊥) → eqb k (length due) ≡ agrees due found
unfolding agrees
parted_before due found {k = k} e n = rw (sym e, ne_eqb k (length due) n) refl

pub parted_behind : (due line : List ℕ) {k : ℕ} → k ≡ parting_of due (octets_in line) → k ≡ length due → eqb (length due) (length line / 2) ≡ agrees due (octets_in line)
unfolding agrees
parted_behind due line {k = k} e h = rw (sym e, eq-eqb k (length due) h, octets_length line) refl
