-- The octets that words state are octets.
-- Assumes nothing.
use mathlib.Core.List.{List, [], ◌∷◌, map}
use Prim.Native.Nat.{ℕ}
use Rattle.laws.specs.Each.{Each}
use Rattle.octets.specs.Numbers.{Octets}
use Rattle.octets.proofs.Octets.{joined_octets}
use Rattle.characters.specs.Digits.{octets_in}
use Rattle.characters.proofs.Back.{in_octets}
use Rattle.stating.specs.Stating.{octets_stated}

each_stated : (ws : List (List ℕ)) → Each Octets (map octets_in ws)
each_stated [] = tt
each_stated (w ∷ ws) = (in_octets w, each_stated ws)

pub stated_octets : (ws : List (List ℕ)) → Octets (octets_stated ws)
stated_octets ws = joined_octets (map octets_in ws) (each_stated ws)
