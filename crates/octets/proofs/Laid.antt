-- Laws of `laid`: the length is kept, octets past the end are dropped, two copies in a row are one copy of the concatenation, and what stands in the buffer afterwards.
-- Assumes nothing.
use mathlib.Core.Path.{◌≡◌, refl, sym, ap, ap₂, ◌∙◌}
use mathlib.Core.Logic.{◌⊎◌, inl, inr, ⊎_elim}
use mathlib.Core.List.{List, [], ◌∷◌, ◌++◌, append_assoc}
use Prim.Native.Nat.{ℕ, zero, suc, ◌+◌, ◌-◌, min, ◌≤◌, ◌<◌}
use native.Mathlib.Nat.{add-zero}
use native.Mathlib.Numerals.{add-one}
use native.Mathlib.Omega.{arith}
use lib.ListN.{length, get_or, set, take, drop, take-append-drop, length-set}
use lib.Seq.{sets, length-sets, sets-eq, set_out, get_or-set_same, get_or-set_other, take-suc, take_all, length-take-le, take-append_seam, drop-append_seam, drop-drop}
use Rattle.octets.specs.Copy.{laid, between}
use Rattle.octets.proofs.Between.{between-eq}
use Rattle.laws.proofs.Order.{by_order}

-- `laid` is the library's run of stores.
laid_sets : (d : List ℕ) (at : ℕ) (s : List ℕ) → laid d at s ≡ sets d at s
unfolding laid
laid_sets d at [] = refl
laid_sets d at (x ∷ s) = laid_sets (set d at x) (at + 1) s ∙ ap (λ (k : ℕ). sets (set d at x) k s) (add-one at)

pub laid-length : (d : List ℕ) (at : ℕ) (s : List ℕ) → length (laid d at s) ≡ length d
laid-length d at s = ap length (laid_sets d at s) ∙ length-sets d at s

pub laid_none : (d : List ℕ) (at : ℕ) → laid d at [] ≡ d
unfolding laid
laid_none d at = refl

pub laid-append : (d : List ℕ) (at : ℕ) (s t : List ℕ) → laid (laid d at s) (at + length s) t ≡ laid d at (s ++ t)
unfolding laid
laid-append d at [] t = ap (λ (k : ℕ). laid d k t) (add-zero at)
laid-append d at (x ∷ s) t =
    ap (λ (k : ℕ). laid (laid (set d at x) (at + 1) s) k t) (omega arith)
    ∙ laid-append (set d at x) (at + 1) s t

pub laid_past : (d : List ℕ) (at : ℕ) (s : List ℕ) → length d ≤ at → laid d at s ≡ d
unfolding laid
laid_past d at [] h = refl
laid_past d at (x ∷ s) h =
    laid_past (set d at x) (at + 1) s (omega (arith, length-set d at x)) ∙ set_out d at x h

-- One octet more.
pub laid_next : (d : List ℕ) (at : ℕ) (s : List ℕ) (i : ℕ) → i < length s
    → set (laid d at (take i s)) (at + i) (get_or s i 0) ≡ laid d at (take (i + 1) s)
unfolding laid
laid_next d at s i h =
    ap (λ (k : ℕ). set (laid d at (take i s)) (at + k) (get_or s i 0)) (sym (length-take-le i s (omega arith)))
    ∙ laid-append d at (take i s) (get_or s i 0 ∷ [])
    ∙ ap (λ (r : List ℕ). laid d at r) (sym (take-suc s i 0 h) ∙ ap (λ (k : ℕ). take k s) (sym (add-one i)))

-- Once the end of the buffer is reached, the rest is dropped.
pub laid_full : (d : List ℕ) (at : ℕ) (s : List ℕ) (i : ℕ) → i ≤ length s → length d ≤ at + i → laid d at (take i s) ≡ laid d at s
laid_full d at s i h full =
    sym
    (ap (λ (r : List ℕ). laid d at r) (sym (take-append-drop i s))
    ∙ sym (laid-append d at (take i s) (drop i s))
    ∙ laid_past (laid d at (take i s)) (at + length (take i s)) (drop i s)
    (omega (arith, laid-length d at (take i s), length-take-le i s h)))

-- The octets that have room are all that a copy lays.
pub laid_fitting : (d : List ℕ) (at : ℕ) (s : List ℕ) → laid d at (take (min (length s) (length d - at)) s) ≡ laid d at s
laid_fitting d at s =
    by_order (length s) (length d - at)
    (λ h. ap (λ (r : List ℕ). laid d at r) (take_all (min (length s) (length d - at)) s (omega arith)))
    (λ h. laid_full d at s (min (length s) (length d - at)) (omega arith) (omega arith))

-- Where the octets fit, they stand in the place of those that were there.
pub laid-eq : (d : List ℕ) (at : ℕ) (s : List ℕ) → at + length s ≤ length d → laid d at s ≡ take at d ++ s ++ drop (at + length s) d
laid-eq d at s h = laid_sets d at s ∙ sets-eq s d at h

-- At the front of a buffer that has room, what was laid is what the buffer begins with.
pub laid_front : (d s : List ℕ) → length s ≤ length d → take (length s) (laid d 0 s) ≡ s
laid_front d s h = ap (λ (r : List ℕ). take (length s) r) (laid-eq d 0 s (omega arith)) ∙ take-append_seam s (drop (0 + length s) d)

-- Octets laid into a buffer change none that stands before them or behind them.
pub laid_elsewhere : (d : List ℕ) (at : ℕ) (s : List ℕ) (k : ℕ) → (k < at) ⊎ (at + length s ≤ k) → get_or (laid d at s) k 0 ≡ get_or d k 0
unfolding laid
laid_elsewhere d at [] k h = refl
laid_elsewhere d at (x ∷ s) k h =
    let other : k ≡ at → ⊥ = λ e. ⊎_elim (λ (l : k < at). omega arith) (λ (l : at + length (x ∷ s) ≤ k). omega arith) h in
    let more : (k < at + 1) ⊎ (at + 1 + length s ≤ k) = ⊎_elim (λ (l : k < at). inl (omega arith)) (λ (l : at + length (x ∷ s) ≤ k). inr (omega arith)) h in
    laid_elsewhere (set d at x) (at + 1) s k more ∙ get_or-set_other d at k x 0 other

-- Each octet laid stands in its place, where the buffer has one.
pub laid-inside : (d : List ℕ) (at : ℕ) (s : List ℕ) (k : ℕ) → k < length s → at + k < length d → get_or (laid d at s) (at + k) 0 ≡ get_or s k 0
unfolding laid
laid-inside d at [] k h room = absurd (omega arith)
laid-inside d at (x ∷ s) zero h room =
    ap (λ (n : ℕ). get_or (laid (set d at x) (at + 1) s) n 0) (add-zero at)
    ∙ laid_elsewhere (set d at x) (at + 1) s at (inl (omega arith))
    ∙ get_or-set_same d at x 0 (omega arith)
laid-inside d at (x ∷ s) (suc k) h room =
    let place : at + suc k ≡ at + 1 + k = omega arith in
    ap (λ (n : ℕ). get_or (laid (set d at x) (at + 1) s) n 0) place
    ∙ laid-inside (set d at x) (at + 1) s k (omega arith) (omega (arith, length-set d at x))

-- What was laid where it fits is read there.
pub laid_read : (d : List ℕ) (at : ℕ) (s : List ℕ) → at + length s ≤ length d → between at (at + length s) (laid d at s) ≡ s
laid_read d at s h =
    let front : List ℕ = take at d in
    let rest : List ℕ = drop (at + length s) d in
    let size : length front ≡ at = length-take-le at d (omega arith) in
    let count : at + length s - at ≡ length s = omega arith in
    between-eq at (at + length s) (laid d at s) (omega arith) (omega (arith, laid-length d at s))
    ∙ ap (λ (n : ℕ). take n (drop at (laid d at s))) count
    ∙ ap (λ (r : List ℕ). take (length s) (drop at r)) (laid-eq d at s h ∙ append_assoc front s rest)
    ∙ ap (λ (n : ℕ). take (length s) (drop n (front ++ (s ++ rest)))) (sym size)
    ∙ ap (λ (r : List ℕ). take (length s) r) (drop-append_seam front (s ++ rest))
    ∙ take-append_seam s rest

-- What is stored from a place on, as many octets as have room, and nothing where the buffer ends before it, is what `laid` stores.
pub laid_stored : (d : List ℕ) (at : ℕ) (s : List ℕ) (place count : ℕ) → place ≡ min at (length d) → count ≡ min (length s) (length d - at)
    → take place d ++ (take count s ++ drop count (drop place d)) ≡ laid d at s
laid_stored d at s place count p n =
    let size : length (take count s) ≡ count = length-take-le count s (omega arith) in
    ap (λ (r : List ℕ). take place d ++ (take count s ++ r)) (drop-drop count place d ∙ ap (λ (k : ℕ). drop (place + k) d) (sym size))
    ∙ sym (laid-eq d place (take count s) (omega arith) ∙ append_assoc (take place d) (take count s) (drop (place + length (take count s)) d))
    ∙ by_order at (length d)
    (λ h. ap₂ (λ (k m : ℕ). laid d k (take m s)) (omega arith) n ∙ laid_fitting d at s)
    (λ h. let none : count ≡ 0 = omega arith in rw none (laid_none d place ∙ sym (laid_past d at s (omega arith))))
