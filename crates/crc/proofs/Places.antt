-- The register as the list of its sixteen places, the top one first: a message bit does to the list what it does to the number.
-- Assumes nothing.
use mathlib.Core.Path.{◌≡◌, refl, sym, ap, ap₂, ◌∙◌}
use mathlib.Core.Bool.{Bool, true, false, cond, xor}
use mathlib.Core.List.{List, [], ◌∷◌, ◌++◌, append-nil, append_assoc}
use Prim.Native.Nat.{ℕ, ◌^◌}
use native.Mathlib.Omega.{arith}
use borrow.Author.Tests.{le-leb, lt-leb}
use lib.Bits.{bit_xor, xor_comm as bit_xor_comm}
use lib.Dec.{leb}
use lib.ListN.{length, replicate, length-append}
use Rattle.crc.specs.Register.{generator, moved, take_bit, take_bits}
use Rattle.crc.specs.Division.{plus, lower_g, number_of}
use Rattle.crc.proofs.Polynomial.{xor_middle, plus_assoc, plus_left, plus_twice, plus-append, length-plus, number_of-lt, number_of-append, number_of-plus}

-- The places moved up by one: a 0 enters at the bottom.
abbrev pub moved_up : List Bool → List Bool
moved_up p = p ++ (false ∷ [])

-- The places after one message bit: all but the top one moved up, and where the bit that leaves differs from the message's, the generator is added.
abbrev pub taken : List Bool → Bool → List Bool
taken [] b = []
taken (t ∷ p) b = cond (xor t b) (plus lower_g (moved_up p)) (moved_up p)

-- The places after several message bits in turn.
abbrev pub taken_all : List Bool → List Bool → List Bool
taken_all p [] = p
taken_all p (b ∷ bs) = taken_all (taken p b) bs

pub length_moved_up : (p : List Bool) → length p ≡ 15 → length (moved_up p) ≡ 16
length_moved_up p e = omega (arith, length-append p (false ∷ []))

pub length_taken : (p : List Bool) (b : Bool) → length p ≡ 16 → length (taken p b) ≡ 16
length_taken [] b e = e
length_taken (t ∷ p) b e = by_cases (xor t b)
  where
    l : length (moved_up p) ≡ 16
    l = length_moved_up p (omega arith)

    by_cases : (u : Bool) → length (cond u (plus lower_g (moved_up p)) (moved_up p)) ≡ 16
    by_cases true = length-plus lower_g (moved_up p) (sym l) ∙ l
    by_cases false = l

number_of_moved_up : (t : Bool) (p : List Bool) → length p ≡ 15 → number_of (moved_up p) ≡ moved (number_of (t ∷ p))
unfolding number_of
number_of_moved_up t p e =
    rw e (omega (arith, number_of-append p (false ∷ []), ap (λ (n : ℕ). 2 ^ n) e, number_of-lt p))

top_place : (t : Bool) (p : List Bool) → length p ≡ 15 → leb 32768 (number_of (t ∷ p)) ≡ t
unfolding number_of
top_place true p e = le-leb 32768 (number_of (true ∷ p)) (omega (arith, ap (λ (n : ℕ). 2 ^ n) e))
top_place false p e =
    lt-leb 32768 (number_of (false ∷ p)) (omega (arith, ap (λ (n : ℕ). 2 ^ n) e, number_of-lt p))

pub number_of_taken : (p : List Bool) (b : Bool) → length p ≡ 16 → number_of (taken p b) ≡ take_bit (number_of p) b
unfolding take_bit number_of
number_of_taken [] b e = absurd (omega arith)
number_of_taken (t ∷ p) b e =
    by_cases (xor t b)
    ∙ ap₂ (λ (u : Bool) (m : ℕ). cond (xor u b) (bit_xor m generator) m) (sym (top_place t p l)) (number_of_moved_up t p l)
  where
    l : length p ≡ 15
    l = omega arith

    m : List Bool
    m = moved_up p

    by_cases : (u : Bool) → number_of (cond u (plus lower_g m) m) ≡ cond u (bit_xor (number_of m) generator) (number_of m)
    by_cases true =
        number_of-plus lower_g m (sym (length_moved_up p l)) ∙ bit_xor_comm (number_of lower_g) (number_of m)
    by_cases false = refl

pub number_of_taken_all : (p bs : List Bool) → length p ≡ 16 → number_of (taken_all p bs) ≡ take_bits (number_of p) bs
unfolding take_bits
number_of_taken_all p [] e = refl
number_of_taken_all p (b ∷ bs) e =
    number_of_taken_all (taken p b) bs (length_taken p b e) ∙ ap (λ (r : ℕ). take_bits r bs) (number_of_taken p b e)

pub length_taken_all : (p bs : List Bool) → length p ≡ 16 → length (taken_all p bs) ≡ 16
length_taken_all p [] e = e
length_taken_all p (b ∷ bs) e = length_taken_all (taken p b) bs (length_taken p b e)

-- The bit that leaves is the message's: the places move up, and no more.
taken_own : (b : Bool) (p : List Bool) → taken (b ∷ p) b ≡ moved_up p
unfolding xor
taken_own true p = refl
taken_own false p = refl

-- A register whose top places are the message moves them out, and zeros in.
pub taken_all_own : (bs p : List Bool) → taken_all (bs ++ p) bs ≡ p ++ replicate (length bs) false
taken_all_own [] p = sym (append-nil p)
taken_all_own (b ∷ bs) p =
    ap (λ (q : List Bool). taken_all q bs) (taken_own b (bs ++ p) ∙ append_assoc bs p (false ∷ []))
    ∙ taken_all_own bs (moved_up p)
    ∙ append_assoc p (false ∷ []) (replicate (length bs) false)

-- Two registers that take a bit each, added up: their sum takes the sum of the bits.
taken_plus : (t u a b : Bool) (p q : List Bool) → length p ≡ 15 → length q ≡ 15
    → taken (xor t u ∷ plus p q) (xor a b) ≡ plus (taken (t ∷ p) a) (taken (u ∷ q) b)
unfolding xor plus
taken_plus t u a b p q e f =
    ap (λ (w : Bool). cond w (plus lower_g (moved_up (plus p q))) (moved_up (plus p q))) (xor_middle t u a b)
    ∙ ap (λ (m : List Bool). cond (xor (xor t a) (xor u b)) (plus lower_g m) m) side
    ∙ by_cases (xor t a) (xor u b)
  where
    m : List Bool
    m = moved_up p

    n : List Bool
    n = moved_up q

    side : moved_up (plus p q) ≡ plus m n
    side = sym (plus-append p q (false ∷ []) (false ∷ []) (e ∙ sym f))

    by_cases : (v w : Bool)
        → cond (xor v w) (plus lower_g (plus m n)) (plus m n) ≡ plus (cond v (plus lower_g m) m) (cond w (plus lower_g n) n)
    by_cases true true = plus_twice lower_g m n (length_moved_up p e) (length_moved_up q f)
    by_cases true false = sym (plus_assoc lower_g m n)
    by_cases false true = plus_left lower_g m n
    by_cases false false = refl

-- Two registers that take bits in turn, added up: their sum takes the sums of the bits.
pub taken_all_plus : (p q bs cs : List Bool) → length p ≡ 16 → length q ≡ 16 → length bs ≡ length cs
    → taken_all (plus p q) (plus bs cs) ≡ plus (taken_all p bs) (taken_all q cs)
unfolding plus
taken_all_plus p q [] [] e f l = refl
taken_all_plus p q [] (c ∷ cs) e f l = absurd (omega arith)
taken_all_plus p q (b ∷ bs) [] e f l = absurd (omega arith)
taken_all_plus [] q (b ∷ bs) (c ∷ cs) e f l = absurd (omega arith)
taken_all_plus (t ∷ p) [] (b ∷ bs) (c ∷ cs) e f l = absurd (omega arith)
taken_all_plus (t ∷ p) (u ∷ q) (b ∷ bs) (c ∷ cs) e f l =
    ap (λ (r : List Bool). taken_all r (plus bs cs)) (taken_plus t u b c p q (omega arith) (omega arith))
    ∙ taken_all_plus (taken (t ∷ p) b) (taken (u ∷ q) c) bs cs (length_taken (t ∷ p) b e) (length_taken (u ∷ q) c f) (omega arith)
