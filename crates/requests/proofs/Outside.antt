-- The number of the first block outside an area, and blocks that are all inside.
-- Assumes nothing.
use mathlib.Core.Path.{◌≡◌}
use mathlib.Core.Bool.{true}
use mathlib.Core.List.{List}
use Prim.Native.Nat.{ℕ, ◌+◌, ◌<◌}
use native.Mathlib.Omega.{arith}
use Rattle.laws.specs.Each.{Each}
use Rattle.laws.proofs.First.{none_each}
use Rattle.octets.specs.Numbers.{Octets}
use Rattle.map.specs.declared.Area.{Area}
use Rattle.blocks.specs.declared.Block.{Block}
use Rattle.blocks.specs.Blocks.{block_count, blocks_of}
use Rattle.blocks.proofs.Behind.{Stopped, first_behind}
use Rattle.blocks.proofs.Octets.{number_small}
use Rattle.requests.specs.Request.{inside_of, outside_of}

-- In application data of octets it has 16 bits.
pub outside_small : (a : Area) (carried : ℕ) (d : List ℕ) → Octets d → outside_of a (blocks_of carried d) < 65536
unfolding outside_of
outside_small a carried d h = number_small d h carried (inside_of a)

-- Of blocks that each have something, the first outside is the one behind so many others as its number says, less one.
pub outside_behind : (a : Area) (carried : ℕ) (d : List ℕ) (P : Block → Type 0) (k : ℕ) → Each P (blocks_of carried d)
    → outside_of a (blocks_of carried d) ≡ k + 1 → Stopped carried d P (inside_of a) 0 k
unfolding outside_of
outside_behind a carried d P k each e = first_behind carried d P (inside_of a) (block_count d) k each e

-- Where no block is outside an area, each is inside.
pub all-inside : (a : Area) (blocks : List Block) → outside_of a blocks ≡ 0 → Each (λ (b : Block). inside_of a b ≡ true) blocks
unfolding outside_of
all-inside a blocks none = none_each (inside_of a) blocks 1 (omega arith) none
