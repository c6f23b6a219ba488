-- Document 01, service 6: the words that a load writes, and what a check says of each block.
use Rattle.std.specs.Prelude.{◌≡◌, List, [], ◌∷◌, ◌++◌, ℕ, ◌*◌}
use Rattle.octets.specs.Copy.{laid}
use Rattle.crc.specs.Register.{crc_of}
use Rattle.reports.specs.Source.{check_entry}
use Rattle.map.specs.declared.Area.{Area}
use Rattle.map.specs.Place.{octet_at, stored_at}
use Rattle.blocks.specs.declared.Block.{Block}
use Rattle.blocks.specs.Blocks.{block_count, blocks_of, words_of}
use Rattle.requests.specs.declared.Action.TheVariants.{Check}
use Rattle.requests.specs.Request.{carried_by}

-- The store with the blocks of a load written in order; where two overlap the later one stays.
unfoldable pub loaded : Area → List ℕ → List Block → List ℕ → List ℕ
loaded a d [] store = store
loaded a d (b ∷ rest) store = loaded a d rest (laid store (octet_at a b.start) (words_of d b))

-- A block's octets in the store.
abbrev pub stored_of : Area → List ℕ → Block → List ℕ
stored_of a store b = stored_at a store b.start b.words

-- What (6,10) says of a block.
abbrev pub entry_of : Area → List ℕ → Block → List ℕ
entry_of a store b = check_entry b.start b.words (crc_of (stored_of a store b))

-- What (6,10) says of the blocks, in order.
unfoldable pub entries_of : Area → List ℕ → List Block → List ℕ
entries_of a store [] = []
entries_of a store (b ∷ rest) = entry_of a store b ++ entries_of a store rest

-- The entries of all blocks are laid, and so many octets they are.
pub record LaysEntries (a : Area) (d store : List ℕ) (at : ℕ) (out : List ℕ) (r : ℕ) (out' : List ℕ) : Type 0 where
  pub octets_is : r ≡ block_count d * 8
  pub out_is : out' ≡ laid out at (entries_of a store (blocks_of (carried_by Check) d))
