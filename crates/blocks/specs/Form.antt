-- Document 01, "Service data" and the detail of refusal 5: when application data of service 6 is well formed.
use Rattle.std.specs.Prelude.{Bool, cond, is_ok, ◌&&◌, List, [], ◌∷◌, map, ℕ, ◌+◌, length, leb, eqb, Ok, Err, Result}
use Rattle.laws.specs.First.{first_wrong}
use Rattle.blocks.specs.declared.Block.{Block}
use Rattle.blocks.specs.Blocks.{first_place, header_size, block_count, blocks_of}

-- The most blocks.
abbrev pub blocks_most : ℕ
blocks_most = 8

-- At least 2 octets are there, and N is 1 to 8.
unfoldable pub head_right : List ℕ → Bool
head_right application =
    leb first_place (length application) && leb 1 (block_count application) && leb (block_count application) blocks_most

-- A block is not cut off and has no bad length, in application data of that many octets; it is at most so many words long.
unfoldable pub block_right : ℕ → ℕ → Block → Bool
block_right most octets block =
    leb (block.at + header_size) octets
    && leb 1 block.words
    && leb block.words most
    && leb block.next octets

-- The first block, from 1, that is cut off or has a bad length; 0 where none is.
unfoldable pub block_fault : ℕ → ℕ → List ℕ → ℕ
block_fault carried most application =
    first_wrong (map (block_right most (length application)) (blocks_of carried application))

-- Where the last of some blocks ends, and the given place where there is none.
unfoldable pub end_of : ℕ → List Block → ℕ
end_of place [] = place
end_of place (block ∷ rest) = end_of block.next rest

-- The blocks use the application data exactly.
unfoldable pub exact : ℕ → List ℕ → Bool
exact carried application = eqb (end_of first_place (blocks_of carried application)) (length application)

-- The form of the blocks: the first block at fault; where only octets are left over, the detail is 0.
unfoldable pub form_of : ℕ → ℕ → List ℕ → Result Unit ℕ
form_of carried most application =
    cond (eqb (block_fault carried most application) 0)
    (cond (exact carried application) (Ok tt) (Err 0))
    (Err (block_fault carried most application))

-- Whether the blocks are well formed, and the detail where they are not.
abbrev pub is_right : Result Unit ℕ → Bool
is_right form = is_ok form

abbrev pub form_detail : Result Unit ℕ → ℕ
form_detail (Ok _) = 0
form_detail (Err k) = k
