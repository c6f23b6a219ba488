-- What the ISO checksum is for: over the octets and the two that it gives, both sums are 0 modulo 255; and no other two octets without a zero do that. The sums are those of whole numbers here, with nothing taken away on the way.
use Rattle.std.specs.Prelude.{◌≡◌, List, [], ◌∷◌, ◌++◌, ℕ, suc, ◌+◌, ◌*◌, ◌/◌, ◌%◌, ◌≤◌, length}
use Rattle.iso.specs.Checksum.{modulus, iso_of}

-- The first sum: of all octets.
unfoldable pub total : List ℕ → ℕ
total [] = 0
total (x ∷ xs) = x + total xs

-- The second sum, of what the first is behind each octet in turn: so an octet counts as often as there are octets from it on.
unfoldable pub weighted : List ℕ → ℕ
weighted [] = 0
weighted (x ∷ xs) = suc (length xs) * x + weighted xs

-- Both sums are 0 modulo 255.
abbrev pub BothZero : List ℕ → Type 0
BothZero xs = (total xs % modulus ≡ 0) × (weighted xs % modulus ≡ 0)

-- An octet that is not 0.
abbrev pub NoZero : ℕ → Type 0
NoZero x = (1 ≤ x) × (x ≤ 255)

-- Two octets close some others: neither is 0, and over all of them both sums are 0.
pub record Closes (xs : List ℕ) (a b : ℕ) : Type 0 where
  pub first : NoZero a
  pub second : NoZero b
  pub sums : BothZero (xs ++ a ∷ b ∷ [])

-- The law, of any function that gives two octets for some, the higher one first.
abbrev pub ClosesAll : (List ℕ → ℕ) → Type 0
ClosesAll f = (xs : List ℕ) → Closes xs (f xs / 256) (f xs % 256)

-- Sends a 0 as it is: of octets that are all 0 it gives 0000.
abbrev pub SendsZero : (List ℕ → ℕ) → Type 0
SendsZero f = f (0 ∷ 0 ∷ []) ≡ 0

-- Exchanges the two octets.
abbrev pub Exchanges : (List ℕ → ℕ) → Type 0
Exchanges f = (xs : List ℕ) → f xs ≡ iso_of xs % 256 * 256 + iso_of xs / 256

-- Minds no order: two octets give the same either way round, as they do in a plain sum.
abbrev pub MindsNoOrder : (List ℕ → ℕ) → Type 0
MindsNoOrder f = (x y : ℕ) → f (x ∷ y ∷ []) ≡ f (y ∷ x ∷ [])
