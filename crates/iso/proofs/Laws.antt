-- Laws of the sums: what they are after one more octet, what is sent of a sum, and that they are the sums of whole numbers, modulo 255.
-- Assumes nothing.
use mathlib.Core.Path.{◌≡◌, refl, sym, ap, ap₂, ◌∙◌}
use mathlib.Core.List.{List, [], ◌∷◌, ◌++◌}
use Prim.Native.Nat.{ℕ, suc, ◌+◌, ◌*◌, ◌%◌, ◌<◌}
use native.Mathlib.Nat.{mul-add, add-mul, suc-mul, mod-mod, add-mod}
use native.Mathlib.Numerals.{add-one}
use native.Mathlib.Omega.{arith}
use lib.Dec.{eqb}
use lib.ListN.{length, length-append, take, get_or}
use lib.Seq.{take-suc}
use borrow.Author.Tests.{eqb-true, eqb-false}
use Rattle.laws.specs.Fold.{reached}
use Rattle.laws.proofs.Fold.{reached-append}
use Rattle.laws.proofs.Tests.{by-test}
use Rattle.iso.specs.declared.Sums.{Sums}
use Rattle.iso.specs.Checksum.{modulus, at_start, added, sums_of, minus, sent}
use Rattle.iso.specs.Closing.{NoZero, total, weighted}

-- ---- a loop over octets

-- The sums after the first octets of a list, and after one more.
pub sums_more : (xs : List ℕ) (i : ℕ) → i < length xs → sums_of (take (i + 1) xs) ≡ added (sums_of (take i xs)) (get_or xs i 0)
unfolding reached sums_of
sums_more xs i h =
    ap (λ (k : ℕ). sums_of (take k xs)) (add-one i)
    ∙ ap sums_of (take-suc xs i 0 h)
    ∙ reached-append added at_start (take i xs) (get_or xs i 0 ∷ [])

-- ---- numbers modulo 255

-- What is the same modulo 255 gives the same sums.
pub plus-mod : (a b c d : ℕ) → a % modulus ≡ b % modulus → c % modulus ≡ d % modulus → (a + c) % modulus ≡ (b + d) % modulus
plus-mod a b c d p q = add-mod a c modulus ∙ ap₂ (λ (x y : ℕ). (x + y) % modulus) p q ∙ sym (add-mod b d modulus)

-- A number and minus it come to 0, and no other number does with it.
pub minus_cancels : (n : ℕ) → (n + minus n) % modulus ≡ 0
minus_cancels n = omega arith

pub minus_only : (n x : ℕ) → (n + x) % modulus ≡ 0 → x % modulus ≡ minus n
minus_only n x h = omega arith

-- What is sent of a sum is no zero, and is the sum modulo 255.
pub sent_of : (sum : ℕ) → sum < modulus → NoZero (sent sum) × (sent sum % modulus ≡ sum)
sent_of sum h =
    by-test (eqb sum 0)
    (λ t. let e : sum ≡ 0 = eqb-true sum 0 t in rw t ((omega arith, omega arith), omega arith))
    (λ f. let e : sum ≡ 0 → ⊥ = eqb-false sum 0 f in rw f ((omega arith, omega arith), omega arith))

-- And nothing else than that is both.
pub sent_only : (sum x : ℕ) → NoZero x → x % modulus ≡ sum → x ≡ sent sum
sent_only sum x h e =
    by-test (eqb sum 0)
    (λ t. let z : sum ≡ 0 = eqb-true sum 0 t in rw t (omega arith))
    (λ f. let z : sum ≡ 0 → ⊥ = eqb-false sum 0 f in rw f (omega arith))

-- ---- as whole numbers

-- Sums that go on from some modulo 255: the first adds all octets up, the second counts the one from which it goes on once for each octet.
sums_from : (xs : List ℕ) (s : Sums) (t w : ℕ) → s.c0 % modulus ≡ t % modulus → s.c1 % modulus ≡ w % modulus
    → ((reached added s xs).c0 % modulus ≡ (t + total xs) % modulus)
    × ((reached added s xs).c1 % modulus ≡ (w + length xs * t + weighted xs) % modulus)
unfolding reached added total weighted
sums_from [] s t w p q = (omega arith, omega arith)
sums_from (x ∷ xs) s t w p q =
    let n : ℕ = length xs in
    let c0 : (s.c0 + x) % modulus % modulus ≡ (t + x) % modulus = mod-mod (s.c0 + x) modulus ∙ plus-mod s.c0 t x x p refl in
    let c1 : (s.c1 + (s.c0 + x) % modulus) % modulus % modulus ≡ (w + (t + x)) % modulus = mod-mod (s.c1 + (s.c0 + x) % modulus) modulus ∙ plus-mod s.c1 w ((s.c0 + x) % modulus) (t + x) q c0 in
    let rest = sums_from xs (added s x) (t + x) (w + (t + x)) c0 c1 in
    let first : t + x + total xs ≡ t + (x + total xs) = omega arith in
    let second : w + (t + x) + n * (t + x) + weighted xs ≡ w + suc n * t + (suc n * x + weighted xs) =
    omega (arith, mul-add n t x, suc-mul n t, suc-mul n x) in
    (rest.0 ∙ ap (λ (m : ℕ). m % modulus) first, rest.1 ∙ ap (λ (m : ℕ). m % modulus) second)

-- The sums are those of whole numbers, modulo 255.
pub sums_whole : (xs : List ℕ) → ((sums_of xs).c0 % modulus ≡ total xs % modulus) × ((sums_of xs).c1 % modulus ≡ weighted xs % modulus)
unfolding sums_of
sums_whole xs =
    let all = sums_from xs at_start 0 0 refl refl in
    (all.0 ∙ ap (λ (m : ℕ). m % modulus) (omega arith), all.1 ∙ ap (λ (m : ℕ). m % modulus) (omega arith))

-- Octets behind others: the first sum goes on, and the second counts the first once for each of them.
pub total-append : (xs ys : List ℕ) → total (xs ++ ys) ≡ total xs + total ys
unfolding total
total-append [] ys = omega arith
total-append (x ∷ xs) ys = omega (arith, total-append xs ys)

pub weighted-append : (xs ys : List ℕ) → weighted (xs ++ ys) ≡ weighted xs + length ys * total xs + weighted ys
unfolding total weighted
weighted-append [] ys = omega arith
weighted-append (x ∷ xs) ys =
    let n : ℕ = length xs in
    let m : ℕ = length ys in
    let long : suc (length (xs ++ ys)) * x ≡ suc n * x + m * x =
    ap (λ (k : ℕ). suc k * x) (length-append xs ys) ∙ suc-mul (n + m) x ∙ omega (arith, add-mul n m x, suc-mul n x) in
    omega (arith, long, weighted-append xs ys, mul-add m x (total xs))
