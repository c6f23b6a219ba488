-- Of application data of octets: the numbers of its blocks have their bits, and the words that a block carries are octets.
-- Assumes nothing.
use mathlib.Core.Path.{◌≡◌, ap}
use mathlib.Core.Bool.{Bool}
use mathlib.Core.List.{List, map}
use Prim.Native.Nat.{ℕ, ◌+◌, min, ◌<◌}
use native.Mathlib.Omega.{arith}
use lib.Dec.{eqb}
use lib.ListN.{length, length-map}
use Rattle.laws.specs.First.{first_wrong}
use Rattle.laws.proofs.First.{first_most}
use Rattle.laws.proofs.Tests.{by-test}
use Rattle.octets.specs.Numbers.{Octets}
use Rattle.octets.proofs.Octets.{between_octets, word16_small, word32_small}
use Rattle.blocks.specs.declared.Block.{Block}
use Rattle.blocks.specs.Blocks.{first_place, block_count, block_at, blocks_of, words_of}
use Rattle.blocks.specs.Form.{block_right, block_fault, exact, form_of, form_detail}
use Rattle.blocks.proofs.Blocks.{blocks_length}

-- A block is read at some place of the application data.
abbrev pub ReadIn : ℕ → List ℕ → Block → Type 0
ReadIn carried d b = (place : ℕ) × (b ≡ block_at carried d place)

module _ (d : List ℕ) (octets : Octets d) where
  -- The start of a block that is read in octets has 32 bits, and its length 16.
  pub block_small : (carried : ℕ) (b : Block) → ReadIn carried d b → (b.start < 4294967296) × (b.words < 65536)
  unfolding block_at
  block_small carried b read =
      let at : ℕ = min read.0 (length d) in
      (omega (arith, ap (λ (x : Block). x.start) read.1, word32_small d at octets), omega (arith, ap (λ (x : Block). x.words) read.1, word16_small d (at + 4) octets))

  -- The words that a block carries are octets.
  pub words_octets : (b : Block) → Octets (words_of d b)
  unfolding words_of
  words_octets b = between_octets _ _ d octets

  -- The number of the first block that fails a test has 16 bits: it is one of N, which is an octet.
  pub number_small : (carried : ℕ) (test : Block → Bool) → first_wrong (map test (blocks_of carried d)) < 65536
  number_small carried test =
      omega (
        arith,
        first_most 1 (map test (blocks_of carried d)),
        length-map (blocks_of carried d) test,
        blocks_length carried d (block_count d) first_place,
        octets 1,
      )

  -- So has the detail of data that are not well formed.
  pub form_small : (carried most : ℕ) → form_detail (form_of carried most d) < 65536
  unfolding form_of block_fault
  form_small carried most =
      by-test (eqb (block_fault carried most d) 0)
      (λ none. rw none (by-test (exact carried d) (λ e. rw e (omega arith)) (λ e. rw e (omega arith))))
      (λ some. rw some (number_small carried (block_right most (length d))))
