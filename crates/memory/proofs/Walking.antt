-- Walks over the blocks of a request, one block at a time: the words written, the entries laid.
-- Assumes nothing.
use mathlib.Core.Path.{◌≡◌, refl, ◌∙◌}
use mathlib.Core.List.{List, [], ◌∷◌}
use Prim.Native.Nat.{ℕ, ◌+◌, ◌*◌}
use native.Mathlib.Omega.{arith}
use lib.ListN.{length, length-append}
use Rattle.octets.specs.Copy.{laid}
use Rattle.octets.proofs.Laid.{laid-append, laid_none}
use Rattle.map.specs.declared.Area.{Area}
use Rattle.map.specs.Place.{octet_at}
use Rattle.blocks.specs.declared.Block.{Block}
use Rattle.blocks.specs.Blocks.{words_of}
use Rattle.memory.specs.Memory.{entry_of, entries_of, loaded}

-- Nothing is left to write, and a block is written before those that are left.
pub loaded_none : (a : Area) (d : List ℕ) (blocks : List Block) (store : List ℕ) → blocks ≡ [] → loaded a d blocks store ≡ store
unfolding loaded
loaded_none a d blocks store e = rw e refl

pub loaded_next : (a : Area) (d : List ℕ) (store : List ℕ) (b : Block) (rest : List Block) (blocks : List Block) → blocks ≡ b ∷ rest
    → loaded a d rest (laid store (octet_at a b.start) (words_of d b)) ≡ loaded a d blocks store
unfolding loaded
loaded_next a d store b rest blocks e = rw e refl

-- Nothing is left to lay, and an entry is laid before those that are left.
pub entries_none : (a : Area) (store : List ℕ) (blocks : List Block) (out : List ℕ) (to : ℕ) → blocks ≡ []
    → laid out to (entries_of a store blocks) ≡ out
unfolding entries_of
entries_none a store blocks out to e = rw e (laid_none out to)

pub entries_next : (a : Area) (store out out' : List ℕ) (to to' : ℕ) (b : Block) (rest blocks : List Block) → blocks ≡ b ∷ rest
    → out' ≡ laid out to (entry_of a store b) → to' ≡ to + 8
    → laid out' to' (entries_of a store rest) ≡ laid out to (entries_of a store blocks)
unfolding entries_of
entries_next a store out out' to to' b rest blocks e f g = rw (e, f, g) (laid-append out to (entry_of a store b) (entries_of a store rest))

-- Eight octets for each block.
pub entries_length : (a : Area) (store : List ℕ) (blocks : List Block) → length (entries_of a store blocks) ≡ length blocks * 8
unfolding entries_of
entries_length a store [] = refl
entries_length a store (b ∷ rest) =
    let more : length (entries_of a store rest) ≡ length rest * 8 = entries_length a store rest in
    length-append (entry_of a store b) (entries_of a store rest) ∙ omega arith
