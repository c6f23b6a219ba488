-- Document 01, "Frames due": the reports that a packet is answered with.
use Rattle.std.specs.Prelude.{ℕ, ◌/◌, ◌%◌, Bool, cond, List, [], ◌∷◌, ◌++◌, ◌==◌}
use Rattle.checks.specs.Verdict.{Verdict}
use Rattle.checks.specs.Verdict.{number_of, detail_of}
use Rattle.map.specs.declared.Area.{Area}
use Rattle.blocks.specs.declared.Block.{Block}
use Rattle.blocks.specs.Blocks.{memory_id, block_count, blocks_of}
use Rattle.tm.specs.Frame.{Report}
use Rattle.requests.specs.declared.Action.TheVariants.{Check}
use Rattle.requests.specs.Request.{carried_by}
use Rattle.memory.specs.Memory.{stored_of, entries_of}
use Rattle.reports.specs.Source.{echo_of, failure, dump_head, check_head}

-- (1,1) and (1,7) carry the TC's packet ID and sequence control.
abbrev pub echo : ℕ → List ℕ → Report
echo subtype packet = record { kind = 1; subtype = subtype; source = echo_of packet }

-- (1,2): those four octets, code and detail.
abbrev pub failed : Verdict → List ℕ → Report
failed v packet = record { kind = 1; subtype = 2; source = echo_of packet ++ failure (number_of v) (detail_of v) }

-- (6,6), one for each block.
abbrev pub dumped : Area → ℕ → List ℕ → Block → Report
dumped a memory store b = record { kind = 6; subtype = 6; source = dump_head memory b.start b.words ++ stored_of a store b }

-- (6,10), one for the TC, by its application data.
abbrev pub checked : Area → List ℕ → List ℕ → Report
checked a d store =
    record { kind = 6; subtype = 10; source = check_head (memory_id d) (block_count d) ++ entries_of a store (blocks_of (carried_by Check) d) }

-- (17,2): no source data.
abbrev pub connected : Report
connected = record { kind = 17; subtype = 2; source = [] }

-- A report if it is asked for.
abbrev pub asked : Bool → Report → List Report
asked b r = cond b (r ∷ []) []

-- Ack value 1 asks for an acceptance report, and value 8 for a completion report.
abbrev pub asks_acceptance : ℕ → Bool
asks_acceptance ack = ack % 2 == 1

abbrev pub asks_completion : ℕ → Bool
asks_completion ack = ack / 8 % 2 == 1
