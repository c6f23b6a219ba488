-- Laws of fronts and parts of a list, and of a part that is moved to the front of its own list.
-- Assumes nothing.
use mathlib.Core.Path.{◌≡◌, sym, ap, ◌∙◌}
use mathlib.Core.List.{List, ◌++◌}
use Prim.Native.Nat.{ℕ, ◌+◌, ◌-◌, ◌≤◌, min}
use native.Mathlib.Nat.{min-eq_left}
use native.Mathlib.Omega.{arith}
use lib.ListN.{length, take, drop, length-take, length-drop, drop_of_length-le}
use lib.Seq.{drop_at, take_all, take-add, length-take-le}
use Rattle.std.specs.List.{copy_within}
use Rattle.octets.specs.Copy.{laid}
use Rattle.octets.proofs.Laid.{laid-eq}
use Rattle.laws.proofs.Order.{by_order}
use Rattle.lines.specs.Cuts.{left_of}

-- No more than all of it.
pub take_least : (n : ℕ) (s : List ℕ) → take (min n (length s)) s ≡ take n s
take_least n s =
    by_order n (length s)
    (λ h. ap (λ (k : ℕ). take k s) (min-eq_left h))
    (λ h. take_all (min n (length s)) s (omega arith) ∙ sym (take_all n s (omega arith)))

-- What a front has from a place on.
pub drop_front : (from end : ℕ) (s : List ℕ) → from ≤ end → end ≤ length s → drop from (take end s) ≡ take (end - from) (drop from s)
drop_front from end s h k =
    let whole : end ≡ from + (end - from) = omega arith in
    ap (λ (n : ℕ). drop from (take n s)) whole
    ∙ ap (λ (r : List ℕ). drop from r) (take-add from (end - from) s)
    ∙ drop_at (take from s) (take (end - from) (drop from s)) from (length-take-le from s (omega arith))

-- The same wherever the place is, by a count of what there is.
pub front_from : (from have count : ℕ) (s : List ℕ) → count ≡ min have (length s) - from → take count (drop from s) ≡ drop from (take have s)
front_from from have count s e =
    by_order from (min have (length s))
    (λ h.
    ap (λ (n : ℕ). take n (drop from s)) e
    ∙ sym (drop_front from (min have (length s)) s h (omega arith))
    ∙ ap (λ (r : List ℕ). drop from r) (take_least have s))
    (λ h.
    let none : count ≡ 0 = omega (arith, e) in
    ap (λ (n : ℕ). take n (drop from s)) none
    ∙ sym (drop_of_length-le (take have s) {i = from} (omega (arith, length-take have s))))

-- What the copy within a buffer takes is what stands from the place on, and none where the place is past the input.
module _ (d : List ℕ) (from have : ℕ) {end start : ℕ} (e : end ≡ min have (length d)) (f : start ≡ min from end) where
  kept_part : take (end - start) (drop start d) ≡ left_of from have d
  kept_part =
      by_order from end
      (λ h. let same : start ≡ from = omega arith in ap (λ (k : ℕ). take (end - start) (drop k d)) same ∙ front_from from have (end - start) d (omega arith))
      (λ h. let none : end - start ≡ 0 = omega arith in ap (λ (n : ℕ). take n (drop start d)) none ∙ front_from from have 0 d (omega arith))

  pub kept_length : end - start ≡ length (left_of from have d)
  kept_length = sym (length-take-le (end - start) (drop start d) (omega (arith, length-drop start d))) ∙ ap length kept_part

  -- It is laid at the buffer's front.
  pub kept : copy_within d start end 0 ≡ laid d 0 (left_of from have d)
  kept =
      let u : List ℕ = take (end - start) (drop start d) in
      let size : length u ≡ end - start = length-take-le (end - start) (drop start d) (omega (arith, length-drop start d)) in
      ap (λ (n : ℕ). take 0 d ++ u ++ drop (0 + n) d) (sym size) ∙ sym (laid-eq d 0 u (omega (arith, size))) ∙ ap (laid d 0) kept_part
