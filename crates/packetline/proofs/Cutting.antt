-- Laws of frames written one a line, and of closing lines.
-- Assumes nothing.
use Rattle.std.specs.Prelude.{Ok, Err}
use mathlib.Core.Path.{◌≡◌, refl, ap}
use mathlib.Core.Bool.{true}
use mathlib.Core.List.{List, [], ◌∷◌, ◌++◌}
use Prim.Native.Nat.{ℕ, zero, suc, ◌+◌, ◌*◌, ◌-◌, min, ◌≤◌, ◌<◌}
use native.Mathlib.Omega.{arith}
use lib.ListN.{length, take, drop, length-append, length-take, length-drop}
use lib.Dec.{ltb}
use borrow.Author.Tests.{ltb-true}
use Rattle.laws.specs.Fold.{joined}
use Rattle.laws.specs.Each.{every}
use Rattle.checks.specs.Verdict.{Verdict, number_of}
use Rattle.checks.proofs.Numbers.{numbers, every_number}
use Rattle.tm.specs.Frame.{frame_size, cut_frames, cut}
use Rattle.tm.proofs.Frames.{cut_next, cut_end}
use Rattle.characters.specs.Digits.{text_of}
use Rattle.saying.specs.Text.{line_of}
use Rattle.saying.proofs.Saying.{line_length}
use Rattle.packetline.specs.Packet.{lines_of, closing_of}

-- ---- frames, one a line

-- Frames that are cut from a buffer have lines of at most three characters for each octet.
turns_most : (n : ℕ) (s : List ℕ) → length (lines_of (cut_frames n s)) ≤ 3 * length s
unfolding cut_frames joined
turns_most zero s = omega arith
turns_most (suc n) [] = omega arith
turns_most (suc n) (x ∷ s) =
    let size : ℕ = frame_size (x ∷ s) in
    let f : List ℕ = take size (x ∷ s) in
    let g : List ℕ = drop size (x ∷ s) in
    omega (arith, length-append (line_of f) (lines_of (cut_frames n g)), line_length f, length-take size (x ∷ s), length-drop size (x ∷ s), turns_most n g)

-- So have the lines of all of them.
pub cut_most : (s : List ℕ) → length (lines_of (cut s)) ≤ 3 * length s
cut_most s = turns_most (length s) s

-- A frame's line, and behind it those of the others.
pub lines_next : (s : List ℕ) (from end : ℕ) → from < length s → end ≡ min (from + frame_size (drop from s)) (length s)
    → lines_of (cut (drop from s)) ≡ line_of (take (end - from) (drop from s)) ++ lines_of (cut (drop end s))
unfolding joined
lines_next s from end h e = ap lines_of (cut_next s from end h e)

-- At the end no frame is left.
pub lines_end : (s : List ℕ) → lines_of (cut (drop (length s) s)) ≡ []
unfolding joined
lines_end s = ap lines_of (cut_end s)

-- ---- closing lines

-- A number has room in an octet.
pub number_small : (v : Verdict) → number_of v < 256
number_small (Ok _) = omega arith
number_small (Err r) = ltb-true _ _ (every_number (λ (n : ℕ). ltb n 256) small r.check)
  where
    small : every (λ (n : ℕ). ltb n 256) numbers ≡ true
    small = unfold every in refl

-- A closing line has four digits and the newline.
pub closing-length : (v : Verdict) → length (closing_of v) ≡ 5
unfolding closing_of text_of
closing-length v = refl
