-- How many octets the reports have at most.
-- Assumes nothing.
use mathlib.Core.Bool.{Bool, true, false}
use mathlib.Core.List.{List, [], ◌∷◌, map}
use Prim.Native.Nat.{ℕ, ◌*◌, ◌≤◌}
use native.Mathlib.Omega.{arith}
use lib.ListN.{length, length-append, length-take}
use Rattle.laws.specs.Each.{Each}
use Rattle.checks.specs.Verdict.{Verdict}
use Rattle.checks.specs.Verdict.{number_of, detail_of}
use Rattle.map.specs.declared.Area.{Area}
use Rattle.map.specs.Place.{dump_words, stored_at}
use Rattle.map.proofs.Octets.{stored_most, dump_most_lem}
use Rattle.blocks.specs.declared.Block.{Block}
use Rattle.blocks.specs.Blocks.{memory_id, block_count, blocks_of}
use Rattle.blocks.specs.Form.{blocks_most}
use Rattle.blocks.proofs.Blocks.{Bounds}
use Rattle.tm.proofs.Frames.{octets_in}
use Rattle.reports.specs.Source.{echo_of, failure, dump_head, check_head}
use Rattle.requests.specs.declared.Action.TheVariants.{Check}
use Rattle.requests.specs.Request.{carried_by}
use Rattle.memory.specs.Memory.{entries_of}
use Rattle.laying.specs.Reports.{echo, failed, dumped, checked, asked}
use Rattle.laying.proofs.Checking.{entries_octets}
use Rattle.terminal.specs.Act.{echo_size, refusal_size, dump_most, service_most}

-- (1,1) and (1,7) are at most 20 octets, asked for or not.
pub echo_most : (asks : Bool) (subtype : ℕ) (packet : List ℕ) → octets_in (asked asks (echo subtype packet)) ≤ echo_size
echo_most true subtype packet = omega (arith, length-take 4 packet)
echo_most false subtype packet = omega arith

-- (1,2) is at most 24 octets.
pub failed_most : (v : Verdict) (packet : List ℕ) → octets_in (failed v packet ∷ []) ≤ refusal_size
failed_most v packet = omega (arith, length-append (echo_of packet) (failure (number_of v) (detail_of v)), length-take 4 packet)

-- The (6,6) of a block that is not too long is at most 504 octets.
pub dumped_most : (a : Area) (memory : ℕ) (store : List ℕ) (b : Block) → b.words ≤ dump_words → octets_in (dumped a memory store b ∷ []) ≤ dump_most
dumped_most a memory store b h =
    let here = dump_most_lem a b.words h in
    omega (arith, stored_most a store b.start b.words, length-append (dump_head memory b.start b.words) (stored_at a store b.start b.words))

-- Those of some such blocks are at most 504 octets each.
pub dumps_most : (a : Area) (memory : ℕ) (store : List ℕ) (octets : ℕ) (blocks : List Block) → Each (Bounds dump_words octets) blocks
    → octets_in (map (dumped a memory store) blocks) ≤ dump_most * length blocks
dumps_most a memory store octets [] h = omega arith
dumps_most a memory store octets (b ∷ rest) h =
    let more = dumps_most a memory store octets rest h.1 in
    omega (arith, dumped_most a memory store b h.0.most)

-- The (6,10) of at most eight blocks is no longer than a service's reports may be.
pub checked_most : (a : Area) (d store : List ℕ) → block_count d ≤ blocks_most → octets_in (checked a d store ∷ []) ≤ service_most
checked_most a d store few =
    omega (arith, entries_octets a d store, length-append (check_head (memory_id d) (block_count d)) (entries_of a store (blocks_of (carried_by Check) d)))
