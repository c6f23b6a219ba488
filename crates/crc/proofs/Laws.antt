-- The laws of the CRC that its proof and other crates cite.
-- Assumes nothing.
use mathlib.Core.Path.{◌≡◌, refl, sym, ap, ap₂, ◌∙◌}
use mathlib.Core.Bool.{Bool, true, false, cond, xor}
use mathlib.Core.List.{List, [], ◌∷◌, ◌++◌}
use Prim.Native.Nat.{ℕ, zero, suc, ◌+◌, ◌*◌, ◌/◌, ◌%◌, ◌<◌}
use native.Mathlib.Nat.{mod-eq_of_lt, zero-mul, add-mul, suc-mul}
use native.Mathlib.Omega.{arith}
use lib.Bits.{bit_xor, xor_lt, xor_zero_r}
use lib.Dec.{leb}
use lib.ListN.{length, replicate, take, drop, get_or, take-append-drop}
use lib.Seq.{drop-cons, drop-drop, take-add}
use Rattle.std.specs.Simd.{first_chunks}
use Rattle.crc.specs.Register.{generator, all_ones, bits_of, moved, take_bit, take_bits, crc_from, crc_of}
use Rattle.crc.specs.Division.{plus, number_of, preset_of}
use Rattle.crc.proofs.Polynomial.{plus_self, length-plus, number_of-append, number_of_zeros, number_of-plus, digits_of, length-digits_of, number_of-digits_of, number_of-bits_of, number_of-preset_of}
use Rattle.crc.proofs.Places.{taken_all, number_of_taken_all, length_taken_all, taken_all_own, taken_all_plus}

-- Eight bits that are 0.
abbrev pub zeros : List Bool
zeros = replicate 8 false

-- What follows is taken from where the first part left the register.
pub crc_from-append : (r : ℕ) (xs ys : List ℕ) → crc_from r (xs ++ ys) ≡ crc_from (crc_from r xs) ys
unfolding crc_from
crc_from-append r [] ys = refl
crc_from-append r (x ∷ xs) ys = crc_from-append (take_bits r (bits_of x)) xs ys

-- ---- a loop over octets

-- What follows the first octets of a list is taken from where they left the register.
pub crc_from_parted : (r : ℕ) (xs : List ℕ) (k : ℕ) → crc_from (crc_from r (take k xs)) (drop k xs) ≡ crc_from r xs
crc_from_parted r xs k = sym (crc_from-append r (take k xs) (drop k xs)) ∙ ap (crc_from r) (take-append-drop k xs)

-- The register after the first octets of a list, and after some more of them.
crc_from_more : (r : ℕ) (xs : List ℕ) (i n : ℕ) → crc_from r (take (i + n) xs) ≡ crc_from (crc_from r (take i xs)) (take n (drop i xs))
crc_from_more r xs i n = ap (crc_from r) (take-add i n xs) ∙ crc_from-append r (take i xs) (take n (drop i xs))

-- After one more.
pub crc_from_octet : (r : ℕ) (xs : List ℕ) (i : ℕ) → i < length xs
    → crc_from r (take (i + 1) xs) ≡ take_bits (crc_from r (take i xs)) (bits_of (get_or xs i 0))
unfolding crc_from
crc_from_octet r xs i h =
    crc_from_more r xs i 1 ∙ ap (λ (s : List ℕ). crc_from (crc_from r (take i xs)) (take 1 s)) (drop-cons xs i 0 h)

-- The chunk of n octets at a place is what the list has there.
chunk_is : (n m : ℕ) (xs : List ℕ) (i : ℕ) → i < m → get_or (first_chunks n m xs) i [] ≡ take n (drop (i * n) xs)
chunk_is n zero xs i h = absurd (omega arith)
chunk_is n (suc m) xs zero h = ap (λ (k : ℕ). take n (drop k xs)) (sym (zero-mul n))
chunk_is n (suc m) xs (suc i) h =
    chunk_is n m (drop n xs) i (omega arith)
    ∙ ap (take n) (drop-drop (i * n) n xs ∙ ap (λ (k : ℕ). drop k xs) (omega (arith, suc-mul i n)))

-- After one more chunk.
pub crc_from_chunk : (r : ℕ) (xs : List ℕ) (n m i : ℕ) → i < m
    → crc_from r (take ((i + 1) * n) xs) ≡ crc_from (crc_from r (take (i * n) xs)) (get_or (first_chunks n m xs) i [])
crc_from_chunk r xs n m i h =
    ap (λ (k : ℕ). crc_from r (take k xs)) (omega (arith, add-mul i 1 n))
    ∙ crc_from_more r xs (i * n) n
    ∙ ap (crc_from (crc_from r (take (i * n) xs))) (sym (chunk_is n m xs i h))

-- ---- the register

-- One message bit leaves sixteen bits in the register.
take_bit-lt : (r : ℕ) (b : Bool) → take_bit r b < 65536
unfolding take_bit
take_bit-lt r b = by_cases (xor (leb 32768 r) b)
  where
    by_cases : (u : Bool) → cond u (bit_xor (moved r) generator) (moved r) < 65536
    by_cases true = xor_lt 16 (moved r) generator (omega arith) (omega arith)
    by_cases false = omega arith

pub take_bits-lt : (r : ℕ) (bs : List Bool) → r < 65536 → take_bits r bs < 65536
unfolding take_bits
take_bits-lt r [] h = h
take_bits-lt r (b ∷ bs) h = take_bits-lt (take_bit r b) bs (take_bit-lt r b)

-- A register of sixteen bits stays one.
pub crc_from-lt : (r : ℕ) (xs : List ℕ) → r < 65536 → crc_from r xs < 65536
unfolding crc_from
crc_from-lt r [] h = h
crc_from-lt r (x ∷ xs) h = crc_from-lt (take_bits r (bits_of x)) xs (take_bits-lt r (bits_of x) h)

-- The CRC is a number of sixteen bits, whatever the list.
pub crc_lt : (xs : List ℕ) → crc_of xs < 65536
crc_lt xs = crc_from-lt all_ones xs (omega arith)

-- Two registers that take bits in turn, added up: their sum takes the sums of the bits.
pub take_bits-plus : (r s : ℕ) (bs cs : List Bool) → r < 65536 → s < 65536 → length bs ≡ length cs
    → take_bits (bit_xor r s) (plus bs cs) ≡ bit_xor (take_bits r bs) (take_bits s cs)
take_bits-plus r s bs cs h k l =
    ap (λ (n : ℕ). take_bits n (plus bs cs)) (sym (number_of-plus p q same ∙ ap₂ bit_xor (places r h) (places s k)))
    ∙ sym (number_of_taken_all (plus p q) (plus bs cs) (length-plus p q same ∙ lq))
    ∙ ap number_of (taken_all_plus p q bs cs lp lq l)
    ∙ number_of-plus (taken_all p bs) (taken_all q cs) (length_taken_all p bs lp ∙ sym (length_taken_all q cs lq))
    ∙ ap₂ bit_xor (number_of_taken_all p bs lp ∙ ap (λ (n : ℕ). take_bits n bs) (places r h)) (number_of_taken_all q cs lq ∙ ap (λ (n : ℕ). take_bits n cs) (places s k))
  where
    p : List Bool
    p = digits_of 16 r

    q : List Bool
    q = digits_of 16 s

    lp : length p ≡ 16
    lp = length-digits_of 16 r

    lq : length q ≡ 16
    lq = length-digits_of 16 s

    same : length p ≡ length q
    same = lp ∙ sym lq

    places : (n : ℕ) → n < 65536 → number_of (digits_of 16 n) ≡ n
    places n b = number_of-digits_of 16 n ∙ mod-eq_of_lt b

-- A register whose top places are the bits that it takes moves them out, and zeros in.
take_bits_own : (bs p : List Bool) → length (bs ++ p) ≡ 16
    → take_bits (number_of (bs ++ p)) bs ≡ number_of (p ++ replicate (length bs) false)
take_bits_own bs p e = sym (number_of_taken_all (bs ++ p) bs e) ∙ ap number_of (taken_all_own bs p)

-- An octet at the top of the register.
number_of_top : (x : ℕ) → x < 256 → number_of (bits_of x ++ zeros) ≡ x * 256
number_of_top x k =
    omega (arith, number_of-append (bits_of x) zeros, number_of-bits_of x, number_of_zeros 8)

-- Eight zeros move an octet from the bottom to the top.
pub take_bits_low : (x : ℕ) → x < 256 → take_bits x zeros ≡ x * 256
take_bits_low x k =
    ap (λ (n : ℕ). take_bits n zeros) (sym bottom)
    ∙ take_bits_own zeros (bits_of x) refl
    ∙ number_of_top x k
  where
    bottom : number_of (zeros ++ bits_of x) ≡ x
    bottom =
        omega (arith, number_of-append zeros (bits_of x), number_of-bits_of x, number_of_zeros 8)

-- The eight bits of an octet are taken as eight zeros are once the octet has been added in at the top.
pub take_bits-octet : (r x : ℕ) → r < 65536 → x < 256 → take_bits r (bits_of x) ≡ take_bits (bit_xor r (x * 256)) zeros
take_bits-octet r x h k =
    sym
    (ap (take_bits (bit_xor r (x * 256))) (sym (plus_self (bits_of x)))
    ∙ take_bits-plus r (x * 256) (bits_of x) (bits_of x) h (omega arith) refl
    ∙ ap (bit_xor (take_bits r (bits_of x))) leaves_none
    ∙ xor_zero_r (take_bits r (bits_of x)))
  where
    leaves_none : take_bits (x * 256) (bits_of x) ≡ 0
    leaves_none =
        ap (λ (n : ℕ). take_bits n (bits_of x)) (sym (number_of_top x k))
        ∙ take_bits_own (bits_of x) zeros refl
        ∙ number_of_zeros 16

-- A list followed by its own CRC, the high octet first, has the CRC 0, from any start of sixteen bits.
pub crc_own : (start : ℕ) (xs : List ℕ) → start < 65536
    → crc_from start (xs ++ (crc_from start xs / 256 ∷ crc_from start xs % 256 ∷ [])) ≡ 0
unfolding crc_from take_bits
crc_own start xs h =
    crc_from-append start xs (crc_from start xs / 256 ∷ crc_from start xs % 256 ∷ [])
    ∙ ap (λ (n : ℕ). take_bits n p) (sym (number_of-preset_of (crc_from start xs) (crc_from-lt start xs h)))
    ∙ take_bits_own p [] refl
    ∙ number_of_zeros 16
  where
    p : List Bool
    p = preset_of (crc_from start xs)
