-- What a load does, octet by octet: "Blocks are written in order; where two overlap the later one stays."
use Rattle.std.specs.Prelude.{◌≡◌, List, ◌∷◌, ◌++◌, ℕ, ◌+◌, ◌-◌, ◌≤◌, ◌<◌, length}
use Rattle.laws.specs.Each.{Each}
use Rattle.octets.specs.Numbers.{octet}
use Rattle.map.specs.declared.Area.{Area}
use Rattle.map.specs.Place.{octet_at, octets_of}
use Rattle.blocks.specs.declared.Block.{Block}
use Rattle.blocks.specs.Blocks.{blocks_of, words_of}
use Rattle.crc.specs.Register.{crc_of}
use Rattle.reports.specs.Source.{dump_head, check_entry}
use Rattle.memory.specs.Memory.{stored_of, entry_of}
use Rattle.laying.specs.Reports.{dumped}
use Rattle.requests.specs.declared.Action.TheVariants.{Load}
use Rattle.requests.specs.Request.{carried_by}

-- An octet of the store belongs to the words of a block of an area.
abbrev pub Over : Area → ℕ → Block → Type 0
Over a k b = (octet_at a b.start ≤ k) × (k < octet_at a b.start + octets_of a b.words)

-- It belongs to none of some blocks.
abbrev pub Clear : Area → ℕ → List Block → Type 0
Clear a k blocks = Each (λ b. Over a k b → ⊥) blocks

-- What an accepted load leaves: each octet is that of the last block that it belongs to, or what it was.
pub record Loads (a : Area) (d store store' : List ℕ) : Type 0 where
  pub kept : (k : ℕ) → Clear a k (blocks_of (carried_by Load) d) → octet store' k ≡ octet store k
  pub last : (k : ℕ) (before behind : List Block) (b : Block) → blocks_of (carried_by Load) d ≡ before ++ b ∷ behind → Over a k b → Clear a k behind
      → octet store' k ≡ octet (words_of d b) (k - octet_at a b.start)
  pub long : length store' ≡ length store

-- What a block of a load gives back when the same addresses are read behind it: its words, in a dump and under the CRC of a check.
pub record GivesBack (a : Area) (d store' : List ℕ) (b c : Block) : Type 0 where
  pub words : stored_of a store' c ≡ words_of d b
  pub dump : (memory : ℕ) → (dumped a memory store' c).source ≡ dump_head memory b.start b.words ++ words_of d b
  pub check : entry_of a store' c ≡ check_entry b.start b.words (crc_of (words_of d b))
