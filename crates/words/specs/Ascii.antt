-- Text as the octets of its characters.
use Rattle.std.specs.Prelude.{List, [], ◌∷◌, ℕ, zero, suc}
use Prim.Native.String.{String, len, char_at}
use Prim.Native.Char.{code}

-- The octets of so many characters of a text from a place on.
abbrev pub codes_from : ℕ → ℕ → String → List ℕ
codes_from zero at s = []
codes_from (suc n) at s = code (char_at s at) ∷ codes_from n (suc at) s

-- The octets of a text, all of whose characters are ASCII.
abbrev pub ascii : String → List ℕ
ascii s = codes_from (len s) 0 s
