-- Document 02, wish 8: check values over octets that come in parts, and wrong ways to give them.
use Rattle.std.specs.Prelude.{◌≡◌, List, [], ◌∷◌, ℕ, ◌-◌, ◌<◌}
use Rattle.laws.specs.Fold.{reached, joined}
use Rattle.crc.specs.Register.{all_ones, crc_from}
use Rattle.crc.specs.Division.{sequence_from}

-- The one law, of any function that gives a value for a start and octets: the parts taken in turn, each from the value that the one before it gave, come to the remainder that the division of the whole leaves, wherever it was divided, parts of no octets among them.
abbrev pub TakesParts : (ℕ → List ℕ → ℕ) → Type 0
TakesParts f = (start : ℕ) (parts : List (List ℕ)) → start < 65536 → reached f start parts ≡ sequence_from start (joined parts)

-- Ignores its start where there are octets: they alone make the value.
abbrev pub IgnoresStart : (ℕ → List ℕ → ℕ) → Type 0
IgnoresStart f = (start other x : ℕ) (xs : List ℕ) → f start (x ∷ xs) ≡ f other (x ∷ xs)

-- Hands back, where there are octets, a value that is not the register: its complement, as the CRCs of other protocols do.
abbrev pub Complements : (ℕ → List ℕ → ℕ) → Type 0
Complements f = (start x : ℕ) (xs : List ℕ) → f start (x ∷ xs) ≡ all_ones - crc_from start (x ∷ xs)

-- Starts anew at a part of no octets.
abbrev pub StartsAnew : (ℕ → List ℕ → ℕ) → Type 0
StartsAnew f = (start : ℕ) → f start [] ≡ all_ones
