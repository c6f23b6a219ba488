-- Laws of big-endian numbers: what is laid out is read back.
-- Assumes nothing.
use mathlib.Core.Path.{◌≡◌, refl, sym, ap, ap₂, ◌∙◌}
use mathlib.Core.List.{List, [], ◌∷◌, ◌++◌}
use Prim.Native.Nat.{ℕ, zero, suc, ◌+◌, ◌-◌, ◌/◌, ◌%◌, ◌≤◌, ◌<◌}
use native.Mathlib.Nat.{add-zero}
use native.Mathlib.Numerals.{add-one}
use native.Mathlib.Omega.{arith}
use lib.ListN.{length, take, drop, drop_of_length-le}
use lib.Seq.{get_or-append_seam, get_or-append-add, drop-cons, take_at, take_all}
use Rattle.octets.specs.Numbers.{Octets, octet, word16, word32, octets16, octets32}

-- The octets of a number are the number again, behind other octets too.
pub word16_behind : (s : List ℕ) (x : ℕ) (rest : List ℕ) → word16 (s ++ (octets16 x ++ rest)) (length s) ≡ x
word16_behind s x rest =
    let high : octet (s ++ (octets16 x ++ rest)) (length s) ≡ x / 256 = get_or-append_seam s (x / 256) (x % 256 ∷ rest) 0 in
    let low : octet (s ++ (octets16 x ++ rest)) (length s + 1) ≡ x % 256 = get_or-append-add s (octets16 x ++ rest) 1 0 in
    omega arith

-- The number at a place, where two octets stand, has those octets.
pub octets16_of_word16 : (s : List ℕ) (at : ℕ) → octet s at < 256 → octet s (at + 1) < 256
    → octets16 (word16 s at) ≡ octet s at ∷ octet s (at + 1) ∷ []
octets16_of_word16 s at h l =
    let high : word16 s at / 256 ≡ octet s at = omega arith in
    let low : word16 s at % 256 ≡ octet s (at + 1) = omega arith in
    ap₂ (λ (a b : ℕ). a ∷ b ∷ []) high low

-- The same of 32 bits.
pub octets32_of_word32 : (s : List ℕ) (at : ℕ) → Octets s → octets32 (word32 s at) ≡ octet s at ∷ octet s (at + 1) ∷ octet s (at + 2) ∷ octet s (at + 2 + 1) ∷ []
octets32_of_word32 s at o =
    let first : word32 s at / 16777216 ≡ octet s at = omega (arith, o at, o (at + 1), o (at + 2), o (at + 2 + 1)) in
    let second : word32 s at / 65536 % 256 ≡ octet s (at + 1) = omega (arith, o at, o (at + 1), o (at + 2), o (at + 2 + 1)) in
    let third : word32 s at / 256 % 256 ≡ octet s (at + 2) = omega (arith, o at, o (at + 1), o (at + 2), o (at + 2 + 1)) in
    let fourth : word32 s at % 256 ≡ octet s (at + 2 + 1) = omega (arith, o at, o (at + 1), o (at + 2), o (at + 2 + 1)) in
    λ i. first i ∷ second i ∷ third i ∷ fourth i ∷ []

-- So many octets from a place on.
unfoldable pub run : List ℕ → ℕ → ℕ → List ℕ
run s at zero = []
run s at (suc n) = octet s at ∷ run s (suc at) n

pub run_length : (s : List ℕ) (at n : ℕ) → length (run s at n) ≡ n
unfolding run
run_length s at zero = refl
run_length s at (suc n) = ap suc (run_length s (suc at) n)

-- A list from a place on begins with its octets there.
pub run_drop : (s : List ℕ) (at n : ℕ) → at + n ≤ length s → drop at s ≡ run s at n ++ drop (at + n) s
unfolding run
run_drop s at zero h = ap (λ (k : ℕ). drop k s) (sym (add-zero at))
run_drop s at (suc n) h =
    let end : suc at + n ≡ at + suc n = omega arith in
    drop-cons s at 0 (omega arith)
    ∙ ap (λ (r : List ℕ). octet s at ∷ r)
    (run_drop s (suc at) n (omega arith) ∙ ap (λ (k : ℕ). run s (suc at) n ++ drop k s) end)

-- The last two octets of a list.
pub last_two : (s : List ℕ) → 2 ≤ length s → drop (length s - 2) s ≡ octet s (length s - 2) ∷ octet s (length s - 2 + 1) ∷ []
unfolding run
last_two s h =
    let n : ℕ = length s - 2 in
    run_drop s n 2 (omega arith)
    ∙ ap (λ (r : List ℕ). run s n 2 ++ r) (drop_of_length-le s {i = n + 2} (omega arith))
    ∙ ap (λ (m : ℕ). octet s n ∷ octet s m ∷ []) (sym (add-one n))

-- A list that begins with its octets.
pub run_take : (s : List ℕ) (at n : ℕ) → at + n ≤ length s → take n (drop at s) ≡ run s at n
run_take s at n h = ap (λ (r : List ℕ). take n r) (run_drop s at n h) ∙ take_at (run s at n) (drop (at + n) s) n (run_length s at n)

-- The octets of a list read one by one are the list.
pub run_all : (s : List ℕ) (n : ℕ) → length s ≡ n → run s 0 n ≡ s
run_all s n h = sym (run_take s 0 n (omega arith)) ∙ take_all n s (omega arith)
