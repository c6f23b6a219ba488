-- Laws of blocks: the fields of the block at a place, the blocks from a place on, what a right block keeps to, and the words that it carries.
-- Assumes nothing.
use mathlib.Core.Path.{◌≡◌, refl, ap, ◌∙◌}
use mathlib.Core.List.{List, [], ◌∷◌}
use mathlib.Core.Bool.{true, ◌&&◌}
use Prim.Native.Nat.{ℕ, zero, suc, ◌+◌, ◌-◌, ◌*◌, ◌≤◌}
use native.Mathlib.Numerals.{add-one}
use native.Mathlib.Omega.{arith}
use lib.ListN.{length}
use lib.Dec.{leb}
use borrow.Author.Tests.{le-leb, lt-leb, leb-true}
use Rattle.laws.proofs.Order.{by_order}
use Rattle.laws.specs.Each.{Each}
use Rattle.laws.proofs.Tests.{both}
use Rattle.octets.proofs.Between.{between-length}
use Rattle.blocks.specs.declared.Block.{Block}
use Rattle.blocks.specs.Blocks.{header_size, block_at, blocks_from, words_of}
use Rattle.blocks.specs.Form.{block_right}

-- ---- the block at a place

pub block_next : (carried : ℕ) (d : List ℕ) (place : ℕ)
    → (block_at carried d place).next ≡ (block_at carried d place).at + header_size + (block_at carried d place).words * carried
unfolding block_at
block_next carried d place = refl

-- ---- the blocks from a place on

pub blocks_length : (carried : ℕ) (d : List ℕ) (n place : ℕ) → length (blocks_from carried d n place) ≡ n
unfolding blocks_from
blocks_length carried d zero place = refl
blocks_length carried d (suc n) place = ap suc (blocks_length carried d n (block_at carried d place).next)

-- Each of them is the block at some place.
pub blocks_read : (carried : ℕ) (d : List ℕ) (n place : ℕ)
    → Each (λ (b : Block). (p : ℕ) × (b ≡ block_at carried d p)) (blocks_from carried d n place)
unfolding blocks_from
blocks_read carried d zero place = tt
blocks_read carried d (suc n) place = ((place, refl), blocks_read carried d n (block_at carried d place).next)

-- None, and one with the others behind it.
pub blocks_none : (carried : ℕ) (d : List ℕ) (n place : ℕ) → n ≡ 0 → blocks_from carried d n place ≡ []
unfolding blocks_from
blocks_none carried d n place e = rw e refl

pub blocks_step : (carried : ℕ) (d : List ℕ) (n place m : ℕ) (b : Block) → n ≡ m + 1 → b ≡ block_at carried d place
    → blocks_from carried d n place ≡ b ∷ blocks_from carried d m b.next
unfolding blocks_from
blocks_step carried d n place m b e f = rw (e, f, add-one) refl

-- ---- a right block

-- A header has room behind a place.
pub header_room : (octets place : ℕ) → leb header_size (octets - place) ≡ leb (place + header_size) octets
header_room octets place =
    by_order (place + header_size) octets
    (λ h. simp (le-leb (place + header_size) octets h, le-leb header_size (octets - place) (omega arith)))
    (λ h. simp (lt-leb (place + header_size) octets h, lt-leb header_size (octets - place) (omega arith)))

-- Where a block lies and how long it is, in application data of that many octets.
pub record Bounds (limit octets : ℕ) (block : Block) : Type 0 where
  pub header : block.at + header_size ≤ octets
  pub least : 1 ≤ block.words
  pub most : block.words ≤ limit
  pub end : block.next ≤ octets

pub block_bounds : (most octets : ℕ) (b : Block) → block_right most octets b ≡ true → Bounds most octets b
unfolding block_right
block_bounds most octets b right =
    let s3 = both (leb (b.at + header_size) octets && leb 1 b.words && leb b.words most) (leb b.next octets) right in
    let s2 = both (leb (b.at + header_size) octets && leb 1 b.words) (leb b.words most) s3.0 in
    let s1 = both (leb (b.at + header_size) octets) (leb 1 b.words) s2.0 in
    record {
      header = leb-true _ _ s1.0;
      least = leb-true _ _ s1.1;
      most = leb-true _ _ s2.1;
      end = leb-true _ _ s3.1;
    }

-- ---- the words that a block carries

pub words_length : (carried most : ℕ) (d : List ℕ) (b : Block) (place : ℕ) → block_right most (length d) b ≡ true → b ≡ block_at carried d place
    → length (words_of d b) ≡ b.words * carried
unfolding words_of
words_length carried most d b place right read =
    let bounds : Bounds most (length d) b = block_bounds most (length d) b right in
    let next : b.next ≡ b.at + header_size + b.words * carried = rw read (block_next carried d place) in
    between-length (b.at + header_size) b.next d (omega arith) bounds.end ∙ omega arith
