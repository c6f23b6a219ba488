-- The frame due: the first of those that are left in a group, and how long it is at most.
-- Assumes nothing.
use Rattle.std.proofs.Common.{◌≡◌, ℕ, ◌+◌, ◌-◌, ◌<◌, ◌≤◌, min, List, [], ◌∷◌, length, take, drop, sym, refl, ap, ◌∙◌, arith, length-drop, length-take, take_all}
use Rattle.laws.proofs.Order.{by_order}
use Rattle.tm.specs.Frame.{frame_size, cut}
use Rattle.tm.proofs.Frames.{cut_next, cut_end}
use Rattle.grouping.specs.declared.Group.{Group}
use Rattle.grouping.specs.Group.{left_at, frame_room, due_at, due_end, compared}

-- What stands from a place on, by its length.
pub left_all : (g : Group) (out frames left : List ℕ) → frames ≡ take g.end out → left ≡ take (length frames) (drop g.from frames) → left ≡ left_at g out
left_all g out frames left e f =
    f ∙ take_all (length frames) (drop g.from frames) (omega (arith, length-drop g.from frames)) ∙ ap (λ (s : List ℕ). drop g.from s) e

-- A frame taken by its end or by its length field is the same.
pub due_whole : (left frame : List ℕ) (end : ℕ) → end ≡ min (0 + frame_size left) (length left) → frame ≡ take end left → frame ≡ take (frame_size left) left
due_whole left frame end e f =
    by_order (frame_size left) (length left)
    (λ h. let whole : end ≡ frame_size left = omega (arith, e) in f ∙ ap (λ (n : ℕ). take n left) whole)
    (λ h. f ∙ take_all end left (omega (arith, e)) ∙ sym (take_all (frame_size left) left (omega arith)))

-- The frame due is the first of those that are left, where they have room, and behind it the rest are left.
pub due-first : (g : Group) (out : List ℕ) → length (take g.end out) ≤ frame_room → 0 < length (left_at g out)
    → cut (left_at g out) ≡ due_at g out ∷ cut (left_at (compared g out) out)
due-first g out room some =
    let frames : List ℕ = take g.end out in
    let left : List ℕ = left_at g out in
    let size : ℕ = frame_size left in
    let behind : length left ≡ length frames - g.from = length-drop g.from frames in
    let first : take (due_end g out - g.from) left ≡ due_at g out =
    by_order (g.from + size) (length frames)
    (λ h. let n : due_end g out - g.from ≡ size = omega arith in
    ap (λ (k : ℕ). take k left) n ∙ sym (take_all frame_room (take size left) (omega (arith, length-take size left))))
    (λ h. take_all (due_end g out - g.from) left (omega arith) ∙ sym (take_all size left (omega arith)) ∙ sym (take_all frame_room (take size left) (omega (arith, length-take size left)))) in
    cut_next frames g.from (due_end g out) (omega arith) refl ∙ ap (λ (f : List ℕ). f ∷ cut (left_at (compared g out) out)) first

pub due-none : (g : Group) (out : List ℕ) → length (left_at g out) ≡ 0 → (cut (left_at g out) ≡ []) × (due_at g out ≡ [])
due-none g out e = none (left_at g out) e
  where
    none : (left : List ℕ) → length left ≡ 0 → (cut left ≡ []) × (take frame_room (take (frame_size left) left) ≡ [])
    none [] e = (cut_end [], refl)
    none (x ∷ left) e = absurd (omega arith)

-- It has at most 4,096 octets.
pub due_room : (g : Group) (out : List ℕ) → length (due_at g out) ≤ frame_room
due_room g out = omega (arith, length-take frame_room (take (frame_size (left_at g out)) (left_at g out)))
