-- A law of what a session's commands set.
-- Assumes nothing.
use Rattle.commands.specs.Session.{filling}
use Rattle.octets.specs.Numbers.{octet, word16}
use lib.ListN.{take, replicate}
use Prim.Native.Nat.{ℕ}
use mathlib.Core.List.{List}
use mathlib.Core.Path.{◌≡◌}

-- What fills the output buffer, from its length and its octet.
pub filled : (given : List ℕ) (length fill : ℕ) → length ≡ word16 given 0 → fill ≡ octet given 2 → take length (replicate 8192 fill) ≡ filling given
filled given length fill long full = λ i. take (long i) (replicate 8192 (full i))
