-- Octets laid into a buffer, and parts of a slice. Everything that writes a buffer goes through `laid`.
use Rattle.std.specs.Prelude.{◌≡◌, cond, ◌&&◌, List, [], ◌∷◌, ℕ, ◌+◌, ◌-◌, length, set, take, drop, leb}
use Rattle.octets.specs.declared.copy.Span.{Span}

-- A buffer with octets laid over its own from a place on; those that would stand past its end are dropped.
unfoldable pub laid : List ℕ → ℕ → List ℕ → List ℕ
laid buffer at [] = buffer
laid buffer at (x ∷ rest) = laid (set buffer at x) (at + 1) rest

-- The octets of a slice from a place up to another, and none where the two do not lie in it in that order.
unfoldable pub between : ℕ → ℕ → List ℕ → List ℕ
between start end s = cond (leb start end && leb end (length s)) (take (end - start) (drop start s)) []

-- The octets of a slice that a part names.
abbrev pub placed : Span → List ℕ → List ℕ
placed p s = between p.from p.to s

-- What a caller is promised of a part that is handed on: the octets that it names.
abbrev pub Hands : Span → List ℕ → List ℕ → Type 0
Hands p s r = r ≡ placed p s

-- A part with nothing in it.
abbrev pub nowhere : Span
nowhere = record { from = 0; to = 0 }
