-- The sum of polynomials, and the number whose digits a polynomial's coefficients are.
-- Assumes nothing.
use mathlib.Core.Path.{◌≡◌, refl, sym, ap, ap₂, ◌∙◌}
use mathlib.Core.Bool.{Bool, true, false, xor}
use mathlib.Core.List.{List, [], ◌∷◌, ◌++◌}
use Prim.Native.Nat.{ℕ, zero, suc, ◌+◌, ◌*◌, ◌/◌, ◌%◌, ◌^◌, ◌<◌}
use native.Mathlib.Nat.{add_assoc, add-mul, mul_assoc, zero-mul, pow-suc, div-one}
use native.Mathlib.Numerals.{one-add}
use native.Mathlib.Omega.{arith}
use borrow.Author.Tests.{eqb-true, eqb-false}
use lib.Bits.{bit_xor, xor_block}
use lib.ListN.{length, replicate, length-append}
use lib.Pow.{pow-add, mod-pow-add}
use Rattle.crc.specs.Register.{odd, bits_of}
use Rattle.crc.specs.Division.{plus, digit, number_of, preset_of}

pub xor_comm : (a b : Bool) → xor a b ≡ xor b a
unfolding xor
xor_comm true true = refl
xor_comm true false = refl
xor_comm false true = refl
xor_comm false false = refl

xor_assoc : (a b c : Bool) → xor (xor a b) c ≡ xor a (xor b c)
unfolding xor
xor_assoc true true true = refl
xor_assoc true true false = refl
xor_assoc true false true = refl
xor_assoc true false false = refl
xor_assoc false true true = refl
xor_assoc false true false = refl
xor_assoc false false true = refl
xor_assoc false false false = refl

xor_self : (a : Bool) → xor a a ≡ false
unfolding xor
xor_self true = refl
xor_self false = refl

-- The two in the middle of a sum of four change places.
pub xor_middle : (a b c d : Bool) → xor (xor a b) (xor c d) ≡ xor (xor a c) (xor b d)
xor_middle a b c d =
    xor_assoc a b (xor c d)
    ∙ ap (xor a) (sym (xor_assoc b c d) ∙ ap (λ (x : Bool). xor x d) (xor_comm b c) ∙ xor_assoc c b d)
    ∙ sym (xor_assoc a c (xor b d))

pub plus_comm : (p q : List Bool) → plus p q ≡ plus q p
unfolding plus
plus_comm [] [] = refl
plus_comm [] (b ∷ q) = refl
plus_comm (a ∷ p) [] = refl
plus_comm (a ∷ p) (b ∷ q) = ap₂ {C = List Bool} (λ x l. x ∷ l) (xor_comm a b) (plus_comm p q)

pub plus_assoc : (p q r : List Bool) → plus (plus p q) r ≡ plus p (plus q r)
unfolding plus
plus_assoc [] q r = refl
plus_assoc (a ∷ p) [] r = refl
plus_assoc (a ∷ p) (b ∷ q) [] = refl
plus_assoc (a ∷ p) (b ∷ q) (c ∷ r) = ap₂ {C = List Bool} (λ x l. x ∷ l) (xor_assoc a b c) (plus_assoc p q r)

-- Sums of equal length stand side by side.
pub plus-append : (p q s t : List Bool) → length p ≡ length q → plus (p ++ s) (q ++ t) ≡ plus p q ++ plus s t
unfolding plus
plus-append [] [] s t e = refl
plus-append [] (b ∷ q) s t e = absurd (omega arith)
plus-append (a ∷ p) [] s t e = absurd (omega arith)
plus-append (a ∷ p) (b ∷ q) s t e = ap {B = List Bool} (λ l. xor a b ∷ l) (plus-append p q s t (omega arith))

pub length-plus : (p q : List Bool) → length p ≡ length q → length (plus p q) ≡ length q
unfolding plus
length-plus [] q e = refl
length-plus (a ∷ p) [] e = e
length-plus (a ∷ p) (b ∷ q) e = ap suc (length-plus p q (omega arith))

pub zeros_plus : (n : ℕ) (p : List Bool) → length p ≡ n → plus (replicate n false) p ≡ p
unfolding plus xor
zeros_plus zero p e = refl
zeros_plus (suc n) [] e = absurd (omega arith)
zeros_plus (suc n) (true ∷ p) e = ap {B = List Bool} (λ l. true ∷ l) (zeros_plus n p (omega arith))
zeros_plus (suc n) (false ∷ p) e = ap {B = List Bool} (λ l. false ∷ l) (zeros_plus n p (omega arith))

-- A polynomial added to itself is 0.
pub plus_self : (p : List Bool) → plus p p ≡ replicate (length p) false
unfolding plus
plus_self [] = refl
plus_self (a ∷ p) = ap₂ {C = List Bool} (λ x l. x ∷ l) (xor_self a) (plus_self p)

-- A third polynomial that is added to the second of two might as well come first.
pub plus_left : (g p q : List Bool) → plus g (plus p q) ≡ plus p (plus g q)
plus_left g p q =
    sym (plus_assoc g p q) ∙ ap (λ (x : List Bool). plus x q) (plus_comm g p) ∙ plus_assoc p g q

-- One that is added to both of two is not in their sum.
pub plus_twice : (g p q : List Bool) → length p ≡ length g → length q ≡ length g → plus p q ≡ plus (plus g p) (plus g q)
plus_twice g p q e f =
    sym
    (plus_assoc g p (plus g q)
    ∙ ap (plus g) (plus_left p g q)
    ∙ sym (plus_assoc g g (plus p q))
    ∙ ap (λ (z : List Bool). plus z (plus p q)) (plus_self g)
    ∙ zeros_plus (length g) (plus p q) (length-plus p q (e ∙ sym f) ∙ f))

-- ---- a list of bits as a number

pub number_of-lt : (p : List Bool) → number_of p < 2 ^ length p
unfolding number_of
number_of-lt [] = omega arith
number_of-lt (true ∷ p) = omega (arith, pow-suc 2 (length p), number_of-lt p)
number_of-lt (false ∷ p) = omega (arith, pow-suc 2 (length p), number_of-lt p)

pub number_of-append : (p q : List Bool) → number_of (p ++ q) ≡ number_of p * 2 ^ length q + number_of q
unfolding number_of
number_of-append [] q = omega (arith, zero-mul (2 ^ length q))
number_of-append (b ∷ p) q =
    ap₂ (λ (m n : ℕ). digit b * 2 ^ m + n) (length-append p q) (number_of-append p q)
    ∙ simp (pow-add, add-mul, mul_assoc, add_assoc)

pub number_of_zeros : (n : ℕ) → number_of (replicate n false) ≡ 0
unfolding number_of
number_of_zeros zero = refl
number_of_zeros (suc n) = omega (arith, zero-mul (2 ^ length (replicate n false)), number_of_zeros n)

digit_xor : (a b : Bool) → digit (xor a b) ≡ bit_xor (digit a) (digit b)
unfolding xor
digit_xor true true = refl
digit_xor true false = refl
digit_xor false true = refl
digit_xor false false = refl

pub number_of-plus : (p q : List Bool) → length p ≡ length q → number_of (plus p q) ≡ bit_xor (number_of p) (number_of q)
unfolding plus number_of
number_of-plus [] [] e = refl
number_of-plus [] (b ∷ q) e = absurd (omega arith)
number_of-plus (a ∷ p) [] e = absurd (omega arith)
number_of-plus (a ∷ p) (b ∷ q) e =
    let l : length p ≡ length q = omega arith in
    ap₂ (λ (m n : ℕ). digit (xor a b) * 2 ^ m + n) (length-plus p q l) (number_of-plus p q l)
    ∙ ap (λ (d : ℕ). d * 2 ^ length q + bit_xor (number_of p) (number_of q)) (digit_xor a b)
    ∙ sym (xor_block (length q) (digit a) (digit b) (number_of p) (number_of q) (rw l at (number_of-lt p)) (number_of-lt q))
    ∙ ap (λ (m : ℕ). bit_xor (digit a * 2 ^ m + number_of p) (digit b * 2 ^ length q + number_of q)) (sym l)

-- The last n binary digits of a number, the most significant first.
pub digits_of : ℕ → ℕ → List Bool
digits_of zero x = []
digits_of (suc n) x = odd (x / 2 ^ n) ∷ digits_of n x

pub length-digits_of : (n x : ℕ) → length (digits_of n x) ≡ n
unfolding digits_of
length-digits_of zero x = refl
length-digits_of (suc n) x = ap suc (length-digits_of n x)

digit-odd : (x : ℕ) → digit (odd x) ≡ x % 2
digit-odd x = by_cases (odd x) refl
  where
    by_cases : (t : Bool) → odd x ≡ t → digit t ≡ x % 2
    by_cases true e = sym (eqb-true (x % 2) 1 e)
    by_cases false e = let no1 : x % 2 ≡ 1 → ⊥ = eqb-false (x % 2) 1 e in omega arith

pub number_of-digits_of : (n x : ℕ) → number_of (digits_of n x) ≡ x % 2 ^ n
unfolding number_of digits_of
number_of-digits_of zero x = omega arith
number_of-digits_of (suc n) x =
    ap₂ (λ (k m : ℕ). digit (odd (x / 2 ^ n)) * 2 ^ k + m) (length-digits_of n x) (number_of-digits_of n x)
    ∙ ap (λ (d : ℕ). d * 2 ^ n + x % 2 ^ n) (digit-odd (x / 2 ^ n))
    ∙ sym (mod-pow-add x 1 n)
    ∙ ap (λ (k : ℕ). x % 2 ^ k) (one-add n)

bits_of_digits : (x : ℕ) → bits_of x ≡ digits_of 8 x
unfolding digits_of
bits_of_digits x = simp div-one

pub number_of-bits_of : (x : ℕ) → number_of (bits_of x) ≡ x % 256
number_of-bits_of x = ap number_of (bits_of_digits x) ∙ number_of-digits_of 8 x

-- A value of sixteen bits is the number that its polynomial's coefficients are the digits of.
pub number_of-preset_of : (r : ℕ) → r < 65536 → number_of (preset_of r) ≡ r
number_of-preset_of r h =
    omega
    (arith, number_of-append (bits_of (r / 256)) (bits_of (r % 256)), number_of-bits_of (r / 256), number_of-bits_of (r % 256))
