-- Document 01, "Service data": the blocks of service 6.
use Rattle.std.specs.Prelude.{List, [], ◌∷◌, ℕ, zero, suc, ◌+◌, ◌*◌, min, length}
use Rattle.octets.specs.Numbers.{octet, word16, word32}
use Rattle.octets.specs.Copy.{between}
use Rattle.blocks.specs.declared.Block.{Block}
use Rattle.blocks.specs.declared.reading.Walk.{Walk}

-- The octets before the first block: the memory ID and N.
abbrev pub first_place : ℕ
first_place = 2

-- The octets of a block's start and length.
abbrev pub header_size : ℕ
header_size = 6

-- The block at a place: start (4 octets), length in words (2), then so many octets for each word. A place past the end counts as the end.
unfoldable pub block_at : ℕ → List ℕ → ℕ → Block
block_at carried application place =
    let at : ℕ = min place (length application) in
    let words : ℕ = word16 application (at + 4) in
    record { at = at; start = word32 application at; words = words; next = at + header_size + words * carried }

-- So many blocks from a place on, each where the one before it ends.
unfoldable pub blocks_from : ℕ → List ℕ → ℕ → ℕ → List Block
blocks_from carried application zero place = []
blocks_from carried application (suc n) place =
    block_at carried application place ∷ blocks_from carried application n (block_at carried application place).next

-- The block behind so many others: the first stands behind the memory ID and N, any other where the one before it ends.
unfoldable pub block_behind : ℕ → List ℕ → ℕ → Block
block_behind carried application zero = block_at carried application first_place
block_behind carried application (suc n) = block_at carried application (block_behind carried application n).next

-- The memory ID, the first octet.
abbrev pub memory_id : List ℕ → ℕ
memory_id application = octet application 0

-- N, the second octet.
abbrev pub block_count : List ℕ → ℕ
block_count application = octet application 1

-- The N blocks, from octet 2 on, where a word has so many octets in the application data.
abbrev pub blocks_of : ℕ → List ℕ → List Block
blocks_of carried application = blocks_from carried application (block_count application) first_place

-- The blocks that a walk has still to come to.
abbrev pub blocks_left : Walk → List Block
blocks_left walk = blocks_from walk.carried walk.application.now walk.left walk.place

-- The words that a block carries, as octets.
unfoldable pub words_of : List ℕ → Block → List ℕ
words_of application block = between (block.at + header_size) block.next application
