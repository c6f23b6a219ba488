-- A frame and octets that agree: the octets are the frame's, with a time of their own.
-- Assumes nothing.
use mathlib.Core.Path.{◌≡◌, refl, sym, ap, ◌∙◌}
use mathlib.Core.Bool.{true, false, false≢true, ◌||◌}
use mathlib.Core.Logic.{⊎_elim}
use mathlib.Core.List.{List, [], ◌∷◌, ◌++◌}
use Prim.Native.Nat.{ℕ, zero, suc, ◌+◌, ◌-◌, ◌≤◌, ◌<◌}
use native.Mathlib.Omega.{arith}
use lib.ListN.{length, get_or, take, drop, length-append, length-take, length-drop, get_or-append}
use lib.Seq.{length-take-le, get_or-append-add, get_or-take, get_or-drop, ext_get_or}
use lib.Dec.{eqb, leb, ltb}
use borrow.Author.Tests.{eqb-true, eq-eqb, leb-true, ltb-true, le-leb, lt-ltb}
use Rattle.laws.proofs.Tests.{by-test, both, or_cases, or_right}
use Rattle.laws.proofs.Order.{by_order}
use Rattle.tm.specs.Frame.{time_first, time_end, timed}
use Rattle.beside.specs.Beside.{is_time, parting_from, parting_of, agrees}

-- ---- octet by octet

-- Octets that are the same but for the time's part nowhere before they end.
parts-nowhere : (k : ℕ) (due found : List ℕ) → length due ≡ length found
    → ((i j : ℕ) → j ≡ k + i → i < length due → is_time j ≡ false → get_or due i 0 ≡ get_or found i 0) → parting_from k due found ≡ k + length due
unfolding parting_from
parts-nowhere k [] found l h = omega arith
parts-nowhere k (x ∷ due) [] l h = absurd (omega arith)
parts-nowhere k (x ∷ due) (y ∷ found) l h =
    let here : is_time k || eqb x y ≡ true =
    by-test (is_time k) (λ t. rw t) (λ f. or_right (is_time k) (eqb x y) (eq-eqb x y (h 0 k (omega arith) (omega arith) f))) in
    let more : parting_from (suc k) due found ≡ suc k + length due =
    parts-nowhere (suc k) due found (omega arith) (λ i j e b t. h (suc i) j (omega arith) (omega arith) t) in
    rw here (omega arith)

-- Octets that part nowhere before they end are the same but for the time's.
same_before : (k : ℕ) (due found : List ℕ) → length due ≡ length found → parting_from k due found ≡ k + length due
    → (i j : ℕ) → j ≡ k + i → is_time j ≡ false → get_or due i 0 ≡ get_or found i 0
unfolding parting_from
same_before k [] [] l p i j e t = refl
same_before k [] (y ∷ found) l p i j e t = absurd (omega arith)
same_before k (x ∷ due) [] l p i j e t = absurd (omega arith)
same_before k (x ∷ due) (y ∷ found) l p zero j e t =
    let at : j ≡ k = omega arith in
    by-test (is_time k || eqb x y)
    (λ here. ⊎_elim (λ u. absurd (false≢true (sym t ∙ ap is_time at ∙ u))) (λ u. eqb-true x y u) (or_cases (is_time k) (eqb x y) here))
    (λ not-here.
    let stop : k ≡ k + suc (length due) = rw not-here at p in
    absurd (omega arith))
same_before k (x ∷ due) (y ∷ found) l p (suc i) j e t =
    by-test (is_time k || eqb x y)
    (λ here.
    let on : parting_from (suc k) due found ≡ k + suc (length due) = rw here at p in
    same_before (suc k) due found (omega arith) (omega arith) i j (omega arith) t)
    (λ not-here.
    let stop : k ≡ k + suc (length due) = rw not-here at p in
    absurd (omega arith))

module _ (due found : List ℕ) where
  -- A frame and octets that agree are as long as each other.
  pub agrees-length : agrees due found ≡ true → length due ≡ length found
  unfolding agrees
  agrees-length h = eqb-true (length due) (length found) (both (eqb (parting_of due found) (length due)) (eqb (length due) (length found)) h).1

  -- At each place that is not the time's they have the same octet.
  pub agrees-octet : agrees due found ≡ true → (k : ℕ) → is_time k ≡ false → get_or found k 0 ≡ get_or due k 0
  unfolding agrees
  agrees-octet h k t =
      let parted : parting_from 0 due found ≡ length due =
      eqb-true (parting_of due found) (length due) (both (eqb (parting_of due found) (length due)) (eqb (length due) (length found)) h).0 in
      sym (same_before 0 due found (agrees-length h) (omega arith) k k (omega arith) t)

  -- As long as each other, and the same at each place that is not the time's, they agree.
  pub octets_agree : length due ≡ length found → ((k : ℕ) → k < length due → is_time k ≡ false → get_or due k 0 ≡ get_or found k 0) → agrees due found ≡ true
  unfolding agrees
  octets_agree l h =
      let parted : parting_from 0 due found ≡ 0 + length due =
      parts-nowhere 0 due found l (λ i j e b t. let at : i ≡ j = omega arith in h i b (ap is_time at ∙ t)) in
      rw (eq-eqb (parting_of due found) (length due) (omega arith), eq-eqb (length due) (length found) l)

-- ---- another time

-- A place that is not the time's stands before it or behind it.
beside_time : {X : Type 0} (k : ℕ) → is_time k ≡ false → (k < time_first → X) → (time_end ≤ k → X) → X
beside_time k t front behind =
    by_order time_first k
    (λ past. by_order time_end k behind (λ within. absurd (false≢true (sym t ∙ rw (le-leb time_first k past, lt-ltb k time_end within)))))
    front

module _ (time due : List ℕ) (long : time_end ≤ length due) (six : length time ≡ 6) where
  front_long : length (take time_first due) ≡ time_first
  front_long = length-take-le time_first due (omega arith)

  -- A frame with another time is as long.
  pub timed-length : length (timed time due) ≡ length due
  timed-length =
      omega (arith, front_long, length-append (take time_first due) (time ++ drop time_end due), length-append time (drop time_end due), length-drop time_end due)

  -- It has the same octet at each place that is not the time's.
  pub timed-octet : (k : ℕ) → is_time k ≡ false → get_or (timed time due) k 0 ≡ get_or due k 0
  timed-octet k t =
      beside_time k t
      (λ front.
      get_or-append (take time_first due) (time ++ drop time_end due) 0 k (omega (arith, front_long)) ∙ get_or-take time_first due k 0 front)
      (λ behind.
      let n : ℕ = k - time_end in
      let outer : k ≡ length (take time_first due) + (length time + n) = omega (arith, front_long) in
      let inner : time_end + n ≡ k = omega arith in
      ap (λ (i : ℕ). get_or (timed time due) i 0) outer
      ∙ get_or-append-add (take time_first due) (time ++ drop time_end due) (length time + n) 0
      ∙ get_or-append-add time (drop time_end due) n 0
      ∙ get_or-drop time_end due n 0
      ∙ ap (λ (i : ℕ). get_or due i 0) inner)

  -- Its time's octets are the time's.
  timed-within : (k : ℕ) → is_time k ≡ true → get_or (timed time due) k 0 ≡ get_or time (k - time_first) 0
  timed-within k t =
      let parts = both (leb time_first k) (ltb k time_end) t in
      let low : time_first ≤ k = leb-true time_first k parts.0 in
      let high : k < time_end = ltb-true k time_end parts.1 in
      let n : ℕ = k - time_first in
      let outer : k ≡ length (take time_first due) + n = omega (arith, front_long) in
      ap (λ (i : ℕ). get_or (timed time due) i 0) outer
      ∙ get_or-append-add (take time_first due) (time ++ drop time_end due) n 0
      ∙ get_or-append time (drop time_end due) 0 n (omega arith)

-- A frame agrees with what it is with another time.
pub timed-agrees : (due found time : List ℕ) → time_end ≤ length due → length time ≡ 6 → found ≡ timed time due → agrees due found ≡ true
timed-agrees due found time long six e =
    octets_agree due found (sym (ap length e ∙ timed-length time due long six))
    (λ k b t. sym (ap (λ (s : List ℕ). get_or s k 0) e ∙ timed-octet time due long six k t))

-- Octets that agree with a frame have a time of six.
pub agrees_six : (due found : List ℕ) → time_end ≤ length due → agrees due found ≡ true → length (take 6 (drop 6 found)) ≡ 6
agrees_six due found long h =
    omega (arith, agrees-length due found h, length-take 6 (drop 6 found), length-drop 6 found)

-- They are the frame with that time.
pub agrees-timed : (due found : List ℕ) → time_end ≤ length due → agrees due found ≡ true
    → (length found ≡ length due) × (found ≡ timed (take 6 (drop 6 found)) due)
agrees-timed due found long h =
    let time : List ℕ = take 6 (drop 6 found) in
    let six : length time ≡ 6 = agrees_six due found long h in
    let as_long : length found ≡ length due = sym (agrees-length due found h) in (
      as_long,
      ext_get_or 0 found (timed time due) (as_long ∙ sym (timed-length time due long six))
          (λ k b.
          by-test (is_time k)
          (λ t.
          let parts = both (leb time_first k) (ltb k time_end) t in
          let low : time_first ≤ k = leb-true time_first k parts.0 in
          let high : k < time_end = ltb-true k time_end parts.1 in
          let place : k ≡ 6 + (k - time_first) = omega arith in
          sym (
          timed-within time due long six k t
          ∙ get_or-take 6 (drop 6 found) (k - time_first) 0 (omega arith)
          ∙ get_or-drop 6 found (k - time_first) 0
          ∙ ap (λ (i : ℕ). get_or found i 0) (sym place)
          ))
          (λ t. agrees-octet due found h k t ∙ sym (timed-octet time due long six k t))),
    )
