-- Laws of lists of octets: what is made of octets is octets, and how large the numbers are that stand in them.
-- Assumes nothing.
use mathlib.Core.Path.{◌≡◌}
use mathlib.Core.Bool.{true, ◌&&◌}
use mathlib.Core.List.{List, [], ◌∷◌, ◌++◌}
use Prim.Native.Nat.{ℕ, zero, suc, ◌+◌, ◌-◌, ◌<◌}
use native.Mathlib.Omega.{arith}
use lib.ListN.{length, set, take, drop, replicate}
use lib.Dec.{leb}
use lib.Seq.{get_or-drop}
use borrow.Author.Tests.{leb-true}
use Rattle.laws.specs.Each.{Each, every}
use Rattle.laws.specs.Fold.{joined}
use Rattle.laws.proofs.Tests.{by-test, both}
use Rattle.octets.specs.Numbers.{Octets, word16, word32, octets16, octets32}
use Rattle.octets.specs.Copy.{laid, between}

-- ---- lists put together

one_more : (x : ℕ) (s : List ℕ) → x < 256 → Octets s → Octets (x ∷ s)
one_more x s small rest zero = small
one_more x s small rest (suc k) = rest k

-- A list is one of octets where each element is below 256.
pub octets_of : (s : List ℕ) → Each (λ (x : ℕ). x < 256) s → Octets s
octets_of [] h = λ k. omega arith
octets_of (x ∷ s) h = one_more x s h.0 (octets_of s h.1)

-- And where a test of each says so, which of a list of numerals is computed.
pub octets_tested : (s : List ℕ) → every (λ (x : ℕ). leb x 255) s ≡ true → Octets s
unfolding every
octets_tested [] h = octets_of [] tt
octets_tested (x ∷ s) h =
    let b = both (leb x 255) (every (λ (y : ℕ). leb y 255) s) h in
    one_more x s (omega (arith, leb-true x 255 b.0)) (octets_tested s b.1)

-- Two lists of octets joined are a list of octets.
pub append_octets : (s t : List ℕ) → Octets s → Octets t → Octets (s ++ t)
append_octets [] t h l = l
append_octets (x ∷ s) t h l = one_more x (s ++ t) (h 0) (append_octets s t (λ k. h (suc k)) l)

-- So are any number of them.
pub joined_octets : (lists : List (List ℕ)) → Each Octets lists → Octets (joined lists)
unfolding joined
joined_octets [] h = octets_of [] tt
joined_octets (s ∷ rest) h = append_octets s (joined rest) h.0 (joined_octets rest h.1)

-- So are zeros.
pub zero_octets : (n : ℕ) → Octets (replicate n 0)
zero_octets zero = octets_of [] tt
zero_octets (suc n) = one_more 0 (replicate n 0) (omega arith) (zero_octets n)

-- So is what a list of octets begins with.
pub take_octets : (n : ℕ) (s : List ℕ) → Octets s → Octets (take n s)
take_octets zero s h = octets_of [] tt
take_octets (suc n) [] h = octets_of [] tt
take_octets (suc n) (x ∷ s) h = one_more x (take n s) (h 0) (take_octets n s (λ k. h (suc k)))

pub drop_octets : (n : ℕ) (s : List ℕ) → Octets s → Octets (drop n s)
drop_octets n s h k = rw (get_or-drop n s k 0) (h (n + k))

-- So is a part of one.
pub between_octets : (start end : ℕ) (s : List ℕ) → Octets s → Octets (between start end s)
unfolding between
between_octets start end s h =
    by-test (leb start end && leb end (length s))
    (λ t. rw t (take_octets (end - start) (drop start s) (drop_octets start s h)))
    (λ e. rw e (octets_of [] tt))

set_octets : (s : List ℕ) (at x : ℕ) → Octets s → x < 256 → Octets (set s at x)
set_octets [] at x h small = h
set_octets (y ∷ s) zero x h small = one_more x s small (λ k. h (suc k))
set_octets (y ∷ s) (suc at) x h small = one_more y (set s at x) (h 0) (set_octets s at x (λ k. h (suc k)) small)

-- So is one that octets are laid into.
pub laid_octets : (buffer : List ℕ) (at : ℕ) (s : List ℕ) → Octets buffer → Octets s → Octets (laid buffer at s)
unfolding laid
laid_octets buffer at [] h l = h
laid_octets buffer at (x ∷ s) h l = laid_octets (set buffer at x) (at + 1) s (set_octets buffer at x h (l 0)) (λ k. l (suc k))

-- ---- numbers

-- The octets of a number of 16 bits are octets.
pub octets16_octets : (x : ℕ) → x < 65536 → Octets (octets16 x)
octets16_octets x h = octets_of (octets16 x) (omega arith, (omega arith, tt))

-- Those of a number of 32 bits are octets.
pub octets32_octets : (x : ℕ) → x < 4294967296 → Octets (octets32 x)
octets32_octets x h = octets_of (octets32 x) (omega arith, (omega arith, (omega arith, (omega arith, tt))))

-- Two octets are a number of 16 bits.
pub word16_small : (s : List ℕ) (at : ℕ) → Octets s → word16 s at < 65536
word16_small s at h = omega (arith, h at, h (at + 1))

-- Four octets are a number of 32 bits.
pub word32_small : (s : List ℕ) (at : ℕ) → Octets s → word32 s at < 4294967296
word32_small s at h = omega (arith, word16_small s at h, word16_small s (at + 2) h)
