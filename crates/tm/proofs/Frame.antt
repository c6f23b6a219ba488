-- Laws of one frame: how long it is, what its length field says, and that it may be laid in steps.
-- Assumes nothing.
use mathlib.Core.Path.{◌≡◌, refl, sym, ap, ◌∙◌}
use mathlib.Core.List.{List, [], ◌∷◌, ◌++◌, append_assoc}
use Prim.Native.Nat.{ℕ, ◌+◌, ◌*◌, ◌-◌, ◌/◌, ◌%◌, ◌<◌}
use native.Mathlib.Omega.{arith}
use lib.ListN.{length, take, length-append}
use Rattle.octets.specs.Copy.{laid}
use Rattle.octets.specs.Numbers.{word16}
use Rattle.octets.proofs.Laid.{laid-append}
use Rattle.octets.proofs.Words.{run, run_all}
use Rattle.tm.specs.declared.Stamp.{Stamp}
use Rattle.tm.specs.Frame.{frame_head, uncounted, time_of, head_of, frame_of, timed, frame_size}

-- Six octets are a time as they stand.
pub time_six : (time : List ℕ) → length time ≡ 6 → time_of time ≡ time
unfolding run
time_six time six = run_all time 6 six

pub head_length : (s : Stamp) (n : ℕ) → length s.time ≡ 6 → length (head_of s n) ≡ frame_head
unfolding head_of
head_length s n h = simp length-append (omega arith)

pub frame_length : (s : Stamp) (source : List ℕ) → length s.time ≡ 6 → length (frame_of s source) ≡ frame_head + length source
unfolding frame_of
frame_length s source h = omega (arith, length-append (head_of s (length source)) source, head_length s (length source) h)

-- The length field of a frame says how long it is, where the field has room for that.
pub frame_size_lem : (s : Stamp) (source rest : List ℕ) → length s.time ≡ 6 → length source + frame_head < 65536 + uncounted
    → frame_size (frame_of s source ++ rest) ≡ length (frame_of s source)
unfolding frame_of head_of
frame_size_lem s source rest six small =
    let n : ℕ = (length source + frame_head - uncounted) % 65536 in
    let field : word16 (frame_of s source ++ rest) 4 ≡ n / 256 * 256 + n % 256 = refl in
    omega (arith, field, frame_length s source six)

-- The head laid, and behind it the source data.
pub laid_frame : (d : List ℕ) (at : ℕ) (s : Stamp) (source : List ℕ) → length s.time ≡ 6
    → laid (laid d at (head_of s (length source))) (at + frame_head) source ≡ laid d at (frame_of s source)
unfolding frame_of
laid_frame d at s source h =
    ap (λ (n : ℕ). laid (laid d at (head_of s (length source))) (at + n) source) (sym (head_length s (length source) h))
    ∙ laid-append d at (head_of s (length source)) source

-- The head laid, and behind it source data in two parts.
pub laid_frame_split : (d : List ℕ) (at : ℕ) (s : Stamp) (x y : List ℕ) → length s.time ≡ 6
    → laid (laid (laid d at (head_of s (length y + length x))) (at + frame_head) x) (at + frame_head + length x) y ≡ laid d at (frame_of s (x ++ y))
laid_frame_split d at s x y h =
    ap (λ (n : ℕ). laid (laid (laid d at (head_of s n)) (at + frame_head) x) (at + frame_head + length x) y) (omega (arith, length-append x y))
    ∙ laid-append (laid d at (head_of s (length (x ++ y)))) (at + frame_head) x y
    ∙ laid_frame d at s (x ++ y) h

-- A frame with another time is the frame of a stamp with that time.
pub frame_timed : (pid count kind subtype : ℕ) (old time source : List ℕ) → length old ≡ 6
    → timed time (frame_of (record { pid = pid; count = count; time = old; kind = kind; subtype = subtype }) source)
    ≡ frame_of (record { pid = pid; count = count; time = time; kind = kind; subtype = subtype }) source
unfolding frame_of head_of
frame_timed pid count kind subtype old time source six =
    let stamp : List ℕ → Stamp = λ t. record { pid = pid; count = count; time = t; kind = kind; subtype = subtype } in
    let front : List ℕ = take 6 (head_of (stamp old) (length source)) in
    ap (λ (t : List ℕ). timed time (frame_of (stamp t) source)) (sym (time_six old six))
    ∙ ap (λ (back : List ℕ). front ++ back) (sym (append_assoc time (0 ∷ kind ∷ subtype ∷ 0 ∷ []) source))
