-- Document 01, "All numbers are big-endian": numbers of 16 and 32 bits in octets.
use Rattle.std.specs.Prelude.{List, [], ◌∷◌, ℕ, ◌+◌, ◌*◌, ◌/◌, ◌%◌, ◌<◌, get_or}

-- The octet at a place of a list; past the end it counts as 0.
abbrev pub octet : List ℕ → ℕ → ℕ
octet s at = get_or s at 0

-- A list of octets: each is below 256.
abbrev pub Octets : List ℕ → Type 0
Octets s = (k : ℕ) → octet s k < 256

-- The number of 16 bits that stands at a place.
abbrev pub word16 : List ℕ → ℕ → ℕ
word16 s at = octet s at * 256 + octet s (at + 1)

-- The number of 32 bits that stands at a place.
abbrev pub word32 : List ℕ → ℕ → ℕ
word32 s at = word16 s at * 65536 + word16 s (at + 2)

-- The two octets of a number of 16 bits.
abbrev pub octets16 : ℕ → List ℕ
octets16 x = x / 256 ∷ x % 256 ∷ []

-- The four octets of a number of 32 bits.
abbrev pub octets32 : ℕ → List ℕ
octets32 x = x / 16777216 ∷ x / 65536 % 256 ∷ x / 256 % 256 ∷ x % 256 ∷ []
