-- The tables: what an octet leaves, and how the register is made of that.
-- Assumes nothing.
use mathlib.Core.Path.{◌≡◌, refl, sym, ap, ap₂, ◌∙◌}
use mathlib.Core.Bool.{Bool, true, xor, ◌&&◌}
use mathlib.Core.List.{List, [], ◌∷◌}
use Prim.Native.Nat.{ℕ, zero, suc, ◌+◌, ◌*◌, ◌/◌, ◌%◌, ◌<◌}
use native.Mathlib.Omega.{arith}
use native.Mathlib.Nat.{add-zero, add-suc, suc-add}
use borrow.Author.Tests.{eqb-true}
use lib.Bits.{bit_xor, xor_lt, xor_zero_r, xor_block, xor_shifted}
use lib.Dec.{eqb}
use lib.ListN.{length, replicate, get_or}
use Rattle.laws.proofs.Tests.{both}
use Rattle.crc.specs.Register.{bits_of, take_bits, crc_from}
use Rattle.crc.specs.Division.{plus}
use Rattle.crc.specs.Tables.{leaves, Tables}
use Rattle.crc.proofs.Polynomial.{zeros_plus}
use Rattle.crc.proofs.Laws.{zeros, take_bits-lt, take_bits-plus, take_bits_low, take_bits-octet}

-- Two octets at the top of a register, added up.
top_plus : (x y : ℕ) → bit_xor (x * 256) (y * 256) ≡ bit_xor x y * 256
top_plus x y =
    ap₂ bit_xor (bottom x) (bottom y) ∙ xor_block 8 x y 0 0 (omega arith) (omega arith) ∙ sym (bottom (bit_xor x y))
  where
    bottom : (n : ℕ) → n * 256 ≡ n * 256 + 0
    bottom n = omega arith

-- The register after an octet is made of what its high octet and the one that comes leave together, and of its low octet, which moves up.
pub take_bits_leaves : (r x : ℕ) → r < 65536 → x < 256
    → take_bits r (bits_of x) ≡ bit_xor (leaves 0 (bit_xor (r / 256) x)) (r * 256 % 65536)
unfolding crc_from plus xor
take_bits_leaves r x h k =
    take_bits-octet r x h k
    ∙ ap (λ (n : ℕ). take_bits n zeros) parted
    ∙ take_bits-plus (y * 256) l zeros zeros (omega (arith, below)) (omega arith) refl
    ∙ ap₂ bit_xor (sym (take_bits-octet 0 y (omega arith) below)) (take_bits_low l (omega arith) ∙ omega arith)
  where
    l : ℕ
    l = r % 256

    y : ℕ
    y = bit_xor (r / 256) x

    below : y < 256
    below = xor_lt 8 (r / 256) x (omega arith) k

    high : r ≡ r / 256 * 256 + l
    high = omega arith

    bottom : x * 256 ≡ x * 256 + 0
    bottom = omega arith

    parted : bit_xor r (x * 256) ≡ bit_xor (y * 256) l
    parted =
        ap₂ bit_xor high bottom
        ∙ xor_block 8 (r / 256) x l 0 (omega arith) (omega arith)
        ∙ ap (λ (n : ℕ). y * 256 + n) (xor_zero_r l)
        ∙ sym (xor_shifted y 8 l (omega arith))

-- An octet that the sum of two registers takes: the one takes it, the other an octet 0.
takes-plus : (r s x : ℕ) → r < 65536 → s < 65536
    → take_bits (bit_xor r s) (bits_of x) ≡ bit_xor (take_bits r (bits_of 0)) (take_bits s (bits_of x))
takes-plus r s x h k =
    ap (take_bits (bit_xor r s)) (sym (zeros_plus 8 (bits_of x) refl))
    ∙ take_bits-plus r s zeros (bits_of x) h k refl

-- The same of several octets in turn.
crc_from-plus : (r s : ℕ) (xs : List ℕ) → r < 65536 → s < 65536
    → crc_from (bit_xor r s) xs ≡ bit_xor (crc_from r (replicate (length xs) 0)) (crc_from s xs)
unfolding crc_from
crc_from-plus r s [] h k = refl
crc_from-plus r s (x ∷ xs) h k =
    ap (λ (n : ℕ). crc_from n xs) (takes-plus r s x h k)
    ∙ crc_from-plus (take_bits r (bits_of 0)) (take_bits s (bits_of x)) xs (take_bits-lt r (bits_of 0) h) (take_bits-lt s (bits_of x) k)

-- From 0, the CRC of octets is what the first leaves and the CRC of those behind it, added up: with a table for each octet, the sum of an entry of each.
pub crc_leaves : (x : ℕ) (xs : List ℕ) → crc_from 0 (x ∷ xs) ≡ bit_xor (leaves (length xs) x) (crc_from 0 xs)
unfolding crc_from
crc_leaves x xs =
    ap (λ (n : ℕ). crc_from n xs) (sym (xor_zero_r r))
    ∙ crc_from-plus r 0 xs (take_bits-lt 0 (bits_of x) (omega arith)) (omega arith)
  where
    r : ℕ
    r = take_bits 0 (bits_of x)

-- A start is as good as 0 once it has been added to the first two octets.
pub crc_from-added : (r x y : ℕ) (xs : List ℕ) → r < 65536 → x < 256 → y < 256
    → crc_from r (x ∷ y ∷ xs) ≡ crc_from 0 (bit_xor (r / 256) x ∷ bit_xor (r % 256) y ∷ xs)
unfolding crc_from
crc_from-added r x y xs h k j = ap (λ (n : ℕ). crc_from n xs) both
  where
    l : ℕ
    l = r % 256

    a : ℕ
    a = leaves 0 (bit_xor (r / 256) x)

    a_lt : a < 65536
    a_lt = take_bits-lt 0 (bits_of (bit_xor (r / 256) x)) (omega arith)

    moved_up : r * 256 % 65536 ≡ l * 256
    moved_up = omega arith

    low : take_bits (l * 256) (bits_of y) ≡ take_bits 0 (bits_of (bit_xor l y))
    low =
        take_bits-octet (l * 256) y (omega arith) j
        ∙ ap (λ (n : ℕ). take_bits n zeros) (top_plus l y)
        ∙ sym (take_bits-octet 0 (bit_xor l y) (omega arith) (xor_lt 8 l y (omega arith) j))

    both : take_bits (take_bits r (bits_of x)) (bits_of y) ≡ take_bits a (bits_of (bit_xor l y))
    both =
        ap (λ (n : ℕ). take_bits n (bits_of y)) (take_bits_leaves r x h k ∙ ap (bit_xor a) moved_up)
        ∙ takes-plus a (l * 256) y a_lt (omega arith)
        ∙ ap (bit_xor (take_bits a (bits_of 0))) low
        ∙ sym (takes-plus a 0 (bit_xor l y) a_lt (omega arith))
        ∙ ap (λ (n : ℕ). take_bits n (bits_of (bit_xor l y))) (xor_zero_r a)

-- Four octets in one turn: what each of them leaves, the register added in at the first two.
pub crc_from_four : (r : ℕ) (xs : List ℕ) → r < 65536 → get_or xs 0 0 < 256 → get_or xs 1 0 < 256 → length xs ≡ 4
    → crc_from r xs ≡ bit_xor (leaves 3 (bit_xor (r / 256) (get_or xs 0 0))) (bit_xor (leaves 2 (bit_xor (r % 256) (get_or xs 1 0))) (bit_xor (leaves 1 (get_or xs 2 0)) (leaves 0 (get_or xs 3 0))))
crc_from_four r [] h k j e = absurd (omega arith)
crc_from_four r (x ∷ []) h k j e = absurd (omega arith)
crc_from_four r (x ∷ y ∷ []) h k j e = absurd (omega arith)
crc_from_four r (x ∷ y ∷ z ∷ []) h k j e = absurd (omega arith)
crc_from_four r (x ∷ y ∷ z ∷ w ∷ v ∷ xs) h k j e = absurd (omega arith)
crc_from_four r (x ∷ y ∷ z ∷ w ∷ []) h k j e =
    crc_from-added r x y (z ∷ w ∷ []) h k j
    ∙ crc_leaves a (b ∷ z ∷ w ∷ [])
    ∙ ap (bit_xor (leaves 3 a)) (crc_leaves b (z ∷ w ∷ []) ∙ ap (bit_xor (leaves 2 b)) (crc_leaves z (w ∷ [])))
  where
    a : ℕ
    a = bit_xor (r / 256) x

    b : ℕ
    b = bit_xor (r % 256) y

-- ---- every entry by computation

-- What the entry at a place has to be.
abbrev due : ℕ → ℕ
due i = leaves (i / 256) (i % 256)

-- The entries from the place i on are what they have to be.
abbrev pub right : ℕ → List ℕ → Bool
right i [] = true
right i (v ∷ t) = eqb v (due i) && right (suc i) t

right_from : (t : List ℕ) (i : ℕ) → right i t ≡ true → (k : ℕ) → k < length t → get_or t k 0 ≡ due (i + k)
right_from [] i e k h = absurd (omega arith)
right_from (v ∷ t) i e zero h =
    eqb-true v (due i) (both (eqb v (due i)) (right (suc i) t) e).0 ∙ ap due (sym (add-zero i))
right_from (v ∷ t) i e (suc k) h =
    right_from t (suc i) (both (eqb v (due i)) (right (suc i) t) e).1 k (omega arith)
    ∙ ap due (suc-add i k ∙ sym (add-suc i k))

-- As many entries as n tables have, each of which passes the test, are n tables.
pub right_tables : (n : ℕ) (t : List ℕ) → length t ≡ n * 256 → right 0 t ≡ true → Tables n t
right_tables n t l e = record { entries_are = entry }
  where
    entry : (k x : ℕ) → k < n → x < 256 → get_or t (k * 256 + x) 0 ≡ leaves k x
    entry k x h b =
        let table : (0 + (k * 256 + x)) / 256 ≡ k = omega arith in
        let octet : (0 + (k * 256 + x)) % 256 ≡ x = omega arith in
        right_from t 0 e (k * 256 + x) (omega arith) ∙ ap₂ leaves table octet
