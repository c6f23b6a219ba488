-- Laws of `between`: a part that lies in its slice.
-- Assumes nothing.
use mathlib.Core.Path.{◌≡◌, ap, ap₂, ◌∙◌}
use mathlib.Core.Bool.{◌&&◌}
use mathlib.Core.List.{List, []}
use Prim.Native.Nat.{ℕ, ◌+◌, ◌*◌, ◌-◌, ◌≤◌, ◌<◌, zero-le}
use native.Mathlib.Nat.{sub-zero}
use native.Mathlib.Omega.{arith}
use lib.ListN.{length, take, drop, length-take, length-drop}
use lib.Dec.{leb}
use lib.Seq.{get_or-take, get_or-drop}
use borrow.Author.Tests.{le-leb, lt-leb}
use Rattle.octets.specs.Copy.{between}
use Rattle.octets.specs.Numbers.{octet, word16, word32}
use Rattle.laws.proofs.Order.{by_order}
use Rattle.laws.proofs.Tests.{by-test}

pub between-eq : (start end : ℕ) (s : List ℕ) → start ≤ end → end ≤ length s → between start end s ≡ take (end - start) (drop start s)
unfolding between
between-eq start end s h k = simp (le-leb _ _ h, le-leb _ _ k)

pub between_front : (end : ℕ) (s : List ℕ) → end ≤ length s → between 0 end s ≡ take end s
between_front end s h = between-eq 0 end s (omega arith) h ∙ ap (λ (n : ℕ). take n s) (sub-zero end)

pub between-length : (start end : ℕ) (s : List ℕ) → start ≤ end → end ≤ length s → length (between start end s) ≡ end - start
between-length start end s h k = ap length (between-eq start end s h k) ∙ simp (length-take, length-drop) (omega arith)

pub between_past : (start end : ℕ) (s : List ℕ) → length s < start → between start end s ≡ []
unfolding between
between_past start end s h =
    by_order start end
    (λ k. simp (le-leb start end k, lt-leb end (length s) (omega arith)))
    (λ k. simp (lt-leb start end k))

-- A part is never longer than from its start to its end.
pub between_most : (start end : ℕ) (s : List ℕ) → length (between start end s) ≤ end - start
unfolding between
between_most start end s =
    by-test (leb start end && leb end (length s))
    (λ t. rw t (simp (length-take, length-drop) (omega arith)))
    (λ e. rw e zero-le)

-- An octet of a part is that of the slice, so far behind the part's start.
pub between-octet : (start end : ℕ) (s : List ℕ) (k : ℕ) → start + k < end → end ≤ length s → octet (between start end s) k ≡ octet s (start + k)
between-octet start end s k h l =
    ap (λ (r : List ℕ). octet r k) (between-eq start end s (omega arith) l)
    ∙ get_or-take (end - start) (drop start s) k 0 (omega arith)
    ∙ get_or-drop start s k 0

-- So are its numbers of 16 and 32 bits.
pub between-word16 : (start end : ℕ) (s : List ℕ) (k : ℕ) → start + k + 1 < end → end ≤ length s → word16 (between start end s) k ≡ word16 s (start + k)
between-word16 start end s k h l =
    let next : start + (k + 1) ≡ start + k + 1 = omega arith in
    ap₂ (λ (a b : ℕ). a * 256 + b)
    (between-octet start end s k (omega arith) l)
    (between-octet start end s (k + 1) (omega arith) l ∙ ap (octet s) next)

pub between-word32 : (start end : ℕ) (s : List ℕ) (k : ℕ) → start + k + 3 < end → end ≤ length s → word32 (between start end s) k ≡ word32 s (start + k)
between-word32 start end s k h l =
    let next : start + (k + 2) ≡ start + k + 2 = omega arith in
    ap₂ (λ (a b : ℕ). a * 65536 + b)
    (between-word16 start end s k (omega arith) l)
    (between-word16 start end s (k + 2) (omega arith) l ∙ ap (word16 s) next)
