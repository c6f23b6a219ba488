-- What a load leaves of the store: its length, what stands before and behind its blocks, and the words of the last block over an octet.
-- Assumes nothing.
use mathlib.Core.Path.{◌≡◌, refl, ap, ◌∙◌}
use mathlib.Core.Logic.{◌⊎◌}
use mathlib.Core.List.{List, [], ◌∷◌, ◌++◌}
use Prim.Native.Nat.{ℕ, ◌+◌, ◌-◌, ◌≤◌, ◌<◌}
use native.Mathlib.Omega.{arith}
use lib.ListN.{length, get_or}
use Rattle.laws.specs.Each.{Each}
use Rattle.octets.specs.Copy.{laid}
use Rattle.octets.proofs.Laid.{laid-length, laid_elsewhere, laid-inside}
use Rattle.map.specs.declared.Area.{Area}
use Rattle.map.specs.Place.{octet_at, octets_of, stored_at}
use Rattle.map.proofs.Octets.{stored_laid}
use Rattle.blocks.specs.declared.Block.{Block}
use Rattle.blocks.specs.Blocks.{words_of}
use Rattle.memory.specs.Memory.{loaded}

-- An octet stands before the words of a block, or behind them.
abbrev pub Beyond : Area → List ℕ → ℕ → Block → Type 0
Beyond a d k b = (k < octet_at a b.start) ⊎ (octet_at a b.start + length (words_of d b) ≤ k)

module _ (a : Area) (d : List ℕ) where
  -- A load keeps the store's length.
  pub loaded-length : (blocks : List Block) (store : List ℕ) → length (loaded a d blocks store) ≡ length store
  unfolding loaded
  loaded-length [] store = refl
  loaded-length (b ∷ rest) store =
      loaded-length rest (laid store (octet_at a b.start) (words_of d b)) ∙ laid-length store (octet_at a b.start) (words_of d b)

  -- It leaves every octet that is beyond all of its blocks.
  pub loaded_elsewhere : (k : ℕ) (blocks : List Block) (store : List ℕ) → Each (Beyond a d k) blocks → get_or (loaded a d blocks store) k 0 ≡ get_or store k 0
  unfolding loaded
  loaded_elsewhere k [] store h = refl
  loaded_elsewhere k (b ∷ rest) store h =
      loaded_elsewhere k rest (laid store (octet_at a b.start) (words_of d b)) h.1
      ∙ laid_elsewhere store (octet_at a b.start) (words_of d b) k h.0

  -- Some blocks, and then others.
  loaded-append : (xs ys : List Block) (store : List ℕ) → loaded a d (xs ++ ys) store ≡ loaded a d ys (loaded a d xs store)
  unfolding loaded
  loaded-append [] ys store = refl
  loaded-append (b ∷ xs) ys store = loaded-append xs ys (laid store (octet_at a b.start) (words_of d b))

  -- An octet under a block, and beyond all blocks behind it, is that block's.
  pub loaded_last : (k : ℕ) (xs ys : List Block) (b : Block) (store : List ℕ)
      → octet_at a b.start ≤ k → k < octet_at a b.start + length (words_of d b) → k < length store → Each (Beyond a d k) ys
      → get_or (loaded a d (xs ++ b ∷ ys) store) k 0 ≡ get_or (words_of d b) (k - octet_at a b.start) 0
  unfolding loaded
  loaded_last k xs ys b store from to room behind =
      let at : ℕ = octet_at a b.start in
      let before : List ℕ = loaded a d xs store in
      let place : k ≡ at + (k - at) = omega arith in
      ap (λ (s : List ℕ). get_or s k 0) (loaded-append xs (b ∷ ys) store)
      ∙ loaded_elsewhere k ys (laid before at (words_of d b)) behind
      ∙ ap (λ (n : ℕ). get_or (laid before at (words_of d b)) n 0) place
      ∙ laid-inside before at (words_of d b) (k - at) (omega arith) (omega (arith, loaded-length xs store))

  -- The words of the last block are those read from its address.
  pub loaded_read : (xs : List Block) (b : Block) (store : List ℕ) → length (words_of d b) ≡ octets_of a b.words
      → octet_at a b.start + length (words_of d b) ≤ length store
      → stored_at a (loaded a d (xs ++ b ∷ []) store) b.start b.words ≡ words_of d b
  unfolding loaded
  loaded_read xs b store long room =
      ap (λ (s : List ℕ). stored_at a s b.start b.words) (loaded-append xs (b ∷ []) store)
      ∙ stored_laid a (loaded a d xs store) b.start b.words (words_of d b) long (omega (arith, loaded-length xs store))
