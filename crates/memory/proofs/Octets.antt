-- What a load leaves in the store, and the entries of a check, are octets where application data and store are.
-- Assumes nothing.
use mathlib.Core.List.{List, [], ◌∷◌, ◌++◌}
use Prim.Native.Nat.{ℕ}
use Rattle.laws.specs.Each.{Each}
use Rattle.octets.specs.Numbers.{Octets, octets16, octets32}
use Rattle.octets.specs.Copy.{laid}
use Rattle.octets.proofs.Octets.{octets_of, append_octets, laid_octets, octets16_octets, octets32_octets}
use Rattle.crc.specs.Register.{crc_of}
use Rattle.crc.proofs.Laws.{crc_lt}
use Rattle.map.specs.declared.Area.{Area}
use Rattle.map.specs.Place.{octet_at}
use Rattle.blocks.specs.declared.Block.{Block}
use Rattle.blocks.specs.Blocks.{words_of}
use Rattle.blocks.proofs.Octets.{ReadIn, block_small, words_octets}
use Rattle.memory.specs.Memory.{loaded, stored_of, entry_of, entries_of}

module _ (d : List ℕ) (octets : Octets d) where
  -- A store of octets stays one when octets are loaded.
  pub loaded_octets : (a : Area) (blocks : List Block) (store : List ℕ) → Octets store → Octets (loaded a d blocks store)
  unfolding loaded
  loaded_octets a [] store h = h
  loaded_octets a (b ∷ rest) store h =
      loaded_octets a rest (laid store (octet_at a b.start) (words_of d b))
      (laid_octets store (octet_at a b.start) (words_of d b) h (words_octets d octets b))

  -- Start and length of a block that is read in octets are octets.
  pub block_octets : (carried : ℕ) (b : Block) → ReadIn carried d b → Octets (octets32 b.start ++ octets16 b.words)
  block_octets carried b read =
      let small = block_small d octets carried b read in
      append_octets (octets32 b.start) (octets16 b.words) (octets32_octets b.start small.0) (octets16_octets b.words small.1)

  -- So are the entries of a check, whatever stands in the store.
  pub entries_in_octets : (carried : ℕ) (a : Area) (store : List ℕ) (blocks : List Block) → Each (ReadIn carried d) blocks → Octets (entries_of a store blocks)
  unfolding entries_of
  entries_in_octets carried a store [] read = octets_of [] tt
  entries_in_octets carried a store (b ∷ rest) read =
      let crc : ℕ = crc_of (stored_of a store b) in
      append_octets (entry_of a store b) (entries_of a store rest)
      (append_octets (octets32 b.start ++ octets16 b.words) (octets16 crc) (block_octets carried b read.0) (octets16_octets crc (crc_lt (stored_of a store b))))
      (entries_in_octets carried a store rest read.1)
