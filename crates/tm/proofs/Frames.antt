-- Laws of frames in turn: reports in two runs, how many octets their frames are, and frames that are cut by their length fields.
-- Assumes nothing.
use mathlib.Core.Path.{◌≡◌, refl, sym, ap, ap₂, ◌∙◌}
use mathlib.Core.Bool.{true}
use mathlib.Core.List.{List, [], ◌∷◌, ◌++◌, append-nil, map}
use Prim.Native.Nat.{ℕ, zero, suc, ◌+◌, ◌-◌, min, ◌≤◌, ◌<◌}
use native.Mathlib.Nat.{zero-add}
use native.Mathlib.Omega.{arith}
use lib.ListN.{length, take, drop, length-append, length-drop, drop_of_length-le}
use lib.Seq.{take_all, drop-drop, drop-length, take-append_seam, drop-append_seam}
use Rattle.laws.specs.Each.{Each}
use Rattle.laws.specs.Fold.{joined}
use Rattle.laws.proofs.Fold.{joined-append}
use Rattle.laws.proofs.Order.{by_order}
use Rattle.counts.specs.declared.Counts.{Counts}
use Rattle.counts.specs.Counts.{count_for, counted, in_range}
use Rattle.counts.proofs.Counting.{counted_in_range}
use Rattle.tm.specs.Frame.{Report, frame_head, frame_of, stamped, frames_of, counts_after, timed, frame_size, cut_frames, cut}
use Rattle.tm.proofs.Frame.{frame_length, frame_size_lem, frame_timed}

-- ---- reports in two runs

pub counts-append : (c : Counts) (xs ys : List Report) → counts_after c (xs ++ ys) ≡ counts_after (counts_after c xs) ys
unfolding counts_after
counts-append c [] ys = refl
counts-append c (x ∷ xs) ys = counts-append (counted c x.kind) xs ys

module _ (pid : ℕ) (time : List ℕ) where
  pub frames-append : (c : Counts) (xs ys : List Report)
      → frames_of pid time c (xs ++ ys) ≡ frames_of pid time c xs ++ frames_of pid time (counts_after c xs) ys
  unfolding frames_of counts_after
  frames-append c [] ys = refl
  frames-append c (x ∷ xs) ys = ap (λ (r : List (List ℕ)). stamped pid time c x ∷ r) (frames-append (counted c x.kind) xs ys)

  pub octets_append : (c : Counts) (xs ys : List Report)
      → joined (frames_of pid time c (xs ++ ys)) ≡ joined (frames_of pid time c xs) ++ joined (frames_of pid time (counts_after c xs) ys)
  octets_append c xs ys = ap joined (frames-append c xs ys) ∙ joined-append (frames_of pid time c xs) (frames_of pid time (counts_after c xs) ys)

  pub one_frame : (c : Counts) (r : Report) → joined (frames_of pid time c (r ∷ [])) ≡ stamped pid time c r
  unfolding frames_of joined
  one_frame c r = append-nil (stamped pid time c r)

-- ---- frame by frame

module _ (pid : ℕ) (time : List ℕ) where
  pub frames-none : (c : Counts) → frames_of pid time c [] ≡ []
  unfolding frames_of
  frames-none c = refl

  pub frames_next : (c : Counts) (r : Report) (rest : List Report) → frames_of pid time c (r ∷ rest) ≡ stamped pid time c r ∷ frames_of pid time (counted c r.kind) rest
  unfolding frames_of
  frames_next c r rest = refl

  pub stamped_is : (c : Counts) (r : Report)
      → stamped pid time c r ≡ frame_of (record { pid = pid; count = count_for c r.kind; time = time; kind = r.kind; subtype = r.subtype }) r.source
  unfolding stamped
  stamped_is c r = refl

-- ---- how many octets

-- How many octets the frames of some reports are: for each its head and its source data.
abbrev pub octets_in : List Report → ℕ
octets_in [] = 0
octets_in (r ∷ rest) = frame_head + length r.source + octets_in rest

pub size_append : (xs ys : List Report) → octets_in (xs ++ ys) ≡ octets_in xs + octets_in ys
size_append [] ys = sym (zero-add (octets_in ys))
size_append (x ∷ xs) ys =
    let more = size_append xs ys in
    omega arith

module _ (pid : ℕ) (time : List ℕ) where
  pub stamped-length : (c : Counts) (r : Report) → length time ≡ 6 → length (stamped pid time c r) ≡ frame_head + length r.source
  unfolding stamped
  stamped-length c r six =
      frame_length (record { pid = pid; count = count_for c r.kind; time = time; kind = r.kind; subtype = r.subtype }) r.source six

  -- So many octets the frames are, whatever the counts.
  pub frames_size : (c : Counts) (rs : List Report) → length time ≡ 6 → length (joined (frames_of pid time c rs)) ≡ octets_in rs
  unfolding frames_of joined
  frames_size c [] six = refl
  frames_size c (r ∷ rest) six =
      let here = stamped-length c r six in
      let more = frames_size (counted c r.kind) rest six in
      length-append (stamped pid time c r) (joined (frames_of pid time (counted c r.kind) rest)) ∙ omega arith

-- ---- frames cut by their length fields

-- More turns than octets change nothing.
cut_turns : (n m : ℕ) (s : List ℕ) → length s ≤ n → length s ≤ m → cut_frames n s ≡ cut_frames m s
unfolding cut_frames
cut_turns zero zero s h k = refl
cut_turns zero (suc m) [] h k = refl
cut_turns zero (suc m) (x ∷ s) h k = absurd (omega arith)
cut_turns (suc n) zero [] h k = refl
cut_turns (suc n) zero (x ∷ s) h k = absurd (omega arith)
cut_turns (suc n) (suc m) [] h k = refl
cut_turns (suc n) (suc m) (x ∷ s) h k =
    let size : ℕ = frame_size (x ∷ s) in
    ap (λ (r : List (List ℕ)). take size (x ∷ s) ∷ r)
    (cut_turns n m (drop size (x ∷ s)) (omega (arith, length-drop size (x ∷ s))) (omega (arith, length-drop size (x ∷ s))))

-- The first frame, and those behind it.
pub cut-first : (s : List ℕ) → 0 < length s → cut s ≡ take (frame_size s) s ∷ cut (drop (frame_size s) s)
unfolding cut_frames
cut-first [] h = absurd (omega arith)
cut-first (x ∷ s) h =
    let size : ℕ = frame_size (x ∷ s) in
    ap (λ (r : List (List ℕ)). take size (x ∷ s) ∷ r)
    (cut_turns (length s) (length (drop size (x ∷ s))) (drop size (x ∷ s)) (omega (arith, length-drop size (x ∷ s))) (omega arith))

-- The frame at a place, and those behind it.
pub cut_next : (s : List ℕ) (from end : ℕ) → from < length s → end ≡ min (from + frame_size (drop from s)) (length s)
    → cut (drop from s) ≡ take (end - from) (drop from s) ∷ cut (drop end s)
cut_next s from end h e =
    let rest : List ℕ = drop from s in
    let size : ℕ = frame_size rest in
    let left : length rest ≡ length s - from = length-drop from s in
    by_order (from + size) (length s)
    (λ k.
    let part : size ≡ end - from = omega arith in
    let next : from + size ≡ end = omega arith in
    cut-first rest (omega arith)
    ∙ ap₂ (λ (a b : List ℕ). a ∷ cut b)
    (ap (λ (n : ℕ). take n rest) part)
    (drop-drop size from s ∙ ap (λ (n : ℕ). drop n s) next))
    (λ k.
    let past : length rest ≤ size = omega arith in
    let all : length s ≤ end = omega arith in
    cut-first rest (omega arith)
    ∙ ap₂ (λ (a b : List ℕ). a ∷ cut b)
    (take_all size rest (omega arith) ∙ sym (take_all (end - from) rest (omega arith)))
    (drop_of_length-le rest past ∙ sym (drop_of_length-le s all)))

-- At the end no frame is left.
pub cut_end : (s : List ℕ) → cut (drop (length s) s) ≡ []
unfolding cut_frames
cut_end s = ap cut (drop-length s)

module _ (pid : ℕ) (time : List ℕ) where
  stamped_size : (c : Counts) (r : Report) (rest : List ℕ) → length time ≡ 6 → length (stamped pid time c r) < 65536
      → frame_size (stamped pid time c r ++ rest) ≡ length (stamped pid time c r)
  unfolding stamped
  stamped_size c r rest six small =
      frame_size_lem (record { pid = pid; count = count_for c r.kind; time = time; kind = r.kind; subtype = r.subtype }) r.source rest six
      (omega (arith, stamped-length pid time c r six))

  -- Frames of at most 4,072 octets, the most that a packet is answered with, are cut into themselves.
  pub cut-frames : (c : Counts) (rs : List Report) → length time ≡ 6 → length (joined (frames_of pid time c rs)) ≤ 4072
      → cut (joined (frames_of pid time c rs)) ≡ frames_of pid time c rs
  unfolding frames_of joined cut_frames
  cut-frames c [] six small = refl
  cut-frames c (r ∷ rs) six small =
      let f : List ℕ = stamped pid time c r in
      let g : List ℕ = joined (frames_of pid time (counted c r.kind) rs) in
      let both : length (f ++ g) ≡ length f + length g = length-append f g in
      let long : length f ≡ frame_head + length r.source = stamped-length pid time c r six in
      let size : frame_size (f ++ g) ≡ length f = stamped_size c r g six (omega arith) in
      cut-first (f ++ g) (omega arith)
      ∙ ap (λ (n : ℕ). take n (f ++ g) ∷ cut (drop n (f ++ g))) size
      ∙ ap₂ (λ (a b : List ℕ). a ∷ cut b) (take-append_seam f g) (drop-append_seam f g)
      ∙ ap (λ (b : List (List ℕ)). f ∷ b) (cut-frames (counted c r.kind) rs six (omega arith))

  -- Each of them is as long as its own length field says.
  pub frames_sized : (c : Counts) (rs : List Report) → length time ≡ 6 → length (joined (frames_of pid time c rs)) ≤ 4072
      → Each (λ (frame : List ℕ). length frame ≡ frame_size frame) (frames_of pid time c rs)
  unfolding frames_of joined
  frames_sized c [] six small = tt
  frames_sized c (r ∷ rs) six small =
      let f : List ℕ = stamped pid time c r in
      let g : List ℕ = joined (frames_of pid time (counted c r.kind) rs) in
      let both : length (f ++ g) ≡ length f + length g = length-append f g in
      (sym (ap frame_size (sym (append-nil f)) ∙ stamped_size c r [] six (omega arith)), frames_sized (counted c r.kind) rs six (omega arith))

-- Reports in turn keep the counts in range.
pub after_in_range : (c : Counts) (rs : List Report) → in_range c ≡ true → in_range (counts_after c rs) ≡ true
unfolding counts_after
after_in_range c [] h = h
after_in_range c (r ∷ rest) h = after_in_range (counted c r.kind) rest (counted_in_range c r.kind h)

-- ---- the time

module _ (pid : ℕ) (old : List ℕ) (six : length old ≡ 6) where
  -- Each frame has its head.
  pub frames-long : (c : Counts) (rs : List Report) → Each (λ (frame : List ℕ). frame_head ≤ length frame) (frames_of pid old c rs)
  unfolding frames_of
  frames-long c [] = tt
  frames-long c (r ∷ rs) = (omega (arith, stamped-length pid old c r six), frames-long (counted c r.kind) rs)

  -- Frames with another time are those of the same reports with that time.
  pub frames-timed : (time : List ℕ) (c : Counts) (rs : List Report) → map (timed time) (frames_of pid old c rs) ≡ frames_of pid time c rs
  unfolding frames_of stamped
  frames-timed time c [] = refl
  frames-timed time c (r ∷ rs) =
      ap₂ (λ (f : List ℕ) (fs : List (List ℕ)). f ∷ fs) (frame_timed pid (count_for c r.kind) r.kind r.subtype old time r.source six) (frames-timed time (counted c r.kind) rs)
