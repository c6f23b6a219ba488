-- Laws of digits and of the text of octets.
-- Assumes nothing.
use mathlib.Core.List.{List, [], ◌∷◌}
use lib.ListN.{length}
use mathlib.Core.Path.{◌≡◌, refl, sym, ◌∙◌}
use mathlib.Core.Bool.{true, false, and-eq-true_iff}
use Prim.Native.Nat.{ℕ, ◌*◌, ◌+◌, ◌-◌, ◌≤◌, ◌<◌}
use native.Mathlib.Omega.{arith}
use lib.Dec.{leb, ltb}
use borrow.Author.Tests.{leb-true, le-leb, lt-leb, lt-ltb, le-ltb}
use Rattle.laws.proofs.Tests.{by-test}
use Rattle.characters.specs.Digits.{text_of, within, value_of}

pub within_bounds : (low high c : ℕ) → within low high c ≡ true → (low ≤ c) × (c ≤ high)
within_bounds low high c e =
    let s = (and-eq-true_iff (leb low c) (leb c high)).0 e in
    (leb-true low c s.0, leb-true c high s.1)

-- A character between the ends lies within; one below the low end or above the high one does not.
pub inside : (low high c : ℕ) → low ≤ c → c ≤ high → within low high c ≡ true
inside low high c l h = rw (le-leb low c l, le-leb c high h) refl

pub below : (low high c : ℕ) → c < low → within low high c ≡ false
below low high c l = rw (lt-leb low c l) refl

pub above : (low high c : ℕ) → high < c → within low high c ≡ false
above low high c h = by-test (leb low c) (λ t. rw (t, lt-leb c high h) refl) (λ e. rw e refl)

pub value_number : (c : ℕ) → within 0x30 0x39 c ≡ true → c - 0x30 ≡ value_of c
unfolding value_of
value_number c e = rw e refl

pub value_upper : (c : ℕ) → within 0x30 0x39 c ≡ false → within 0x41 0x46 c ≡ true → c - 0x41 + 10 ≡ value_of c
unfolding value_of
value_upper c n e = rw (n, e) refl

pub value_lower : (c : ℕ) → within 0x30 0x39 c ≡ false → within 0x41 0x46 c ≡ false → within 0x61 0x66 c ≡ true → c - 0x61 + 10 ≡ value_of c
unfolding value_of
value_lower c n u e = rw (n, u, e) refl

pub value_none : (c : ℕ) → within 0x30 0x39 c ≡ false → within 0x41 0x46 c ≡ false → within 0x61 0x66 c ≡ false → 16 ≡ value_of c
unfolding value_of
value_none c n u e = rw (n, u, e) refl

-- What holds in each of the three ranges, and outside of them, holds of every character.
pub by_range : {P : Type 0} (c : ℕ) → (within 0x30 0x39 c ≡ true → P) → (within 0x30 0x39 c ≡ false → within 0x41 0x46 c ≡ true → P)
    → (within 0x30 0x39 c ≡ false → within 0x41 0x46 c ≡ false → within 0x61 0x66 c ≡ true → P)
    → (within 0x30 0x39 c ≡ false → within 0x41 0x46 c ≡ false → within 0x61 0x66 c ≡ false → P) → P
by_range c number upper lower none =
    by-test (within 0x30 0x39 c) number
    (λ n. by-test (within 0x41 0x46 c) (upper n) (λ u. by-test (within 0x61 0x66 c) (lower n u) (none n u)))

-- The digits of a decimal number are the first range.
pub decimal_range : (c : ℕ) → ltb (value_of c) 10 ≡ within 0x30 0x39 c
decimal_range c =
    by_range c
    (λ t. let b = within_bounds 0x30 0x39 c t in lt-ltb (value_of c) 10 (omega (arith, value_number c t)) ∙ sym t)
    (λ n t. le-ltb (value_of c) 10 (omega (arith, value_upper c n t)) ∙ sym n)
    (λ n u t. le-ltb (value_of c) 10 (omega (arith, value_lower c n u t)) ∙ sym n)
    (λ n u e. le-ltb (value_of c) 10 (omega (arith, value_none c n u e)) ∙ sym n)

-- Two characters for each octet.
pub text_length : (s : List ℕ) → length (text_of s) ≡ 2 * length s
unfolding text_of
text_length [] = refl
text_length (x ∷ s) = let more : length (text_of s) ≡ 2 * length s = text_length s in omega arith
