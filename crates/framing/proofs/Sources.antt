-- The source data of every report due: octets, and no more than the longest frame has room for.
-- Assumes nothing.
use Rattle.std.specs.Prelude.{Ok, Err}
use mathlib.Core.Path.{refl}
use mathlib.Core.Bool.{true}
use mathlib.Core.List.{List, [], ◌∷◌, ◌++◌}
use Prim.Native.Nat.{ℕ, ◌+◌, ◌≤◌, ◌<◌}
use native.Mathlib.Omega.{arith}
use lib.Dec.{leb}
use lib.ListN.{length, length-append}
use borrow.Author.Tests.{leb-true}
use Rattle.laws.specs.Each.{Each, every}
use Rattle.octets.specs.Numbers.{Octets, octets16, octets32}
use Rattle.octets.proofs.Octets.{octets_of, append_octets, take_octets, octets16_octets}
use Rattle.checks.specs.Verdict.{Verdict}
use Rattle.checks.specs.Verdict.{check_number, number_of, detail_of}
use Rattle.checks.proofs.Numbers.{every_number}
use Rattle.tc.specs.Layout.{application_of}
use Rattle.reader.proofs.Details.{application_octets}
use Rattle.map.proofs.Octets.{stored_octets}
use Rattle.blocks.specs.Blocks.{first_place, memory_id, block_count, blocks_of}
use Rattle.blocks.proofs.Blocks.{blocks_read}
use Rattle.tm.specs.Frame.{Report, frame_head}
use Rattle.tm.proofs.Octets.{Sendable}
use Rattle.requests.specs.declared.Action.TheVariants.{Dump, Check}
use Rattle.requests.specs.Request.{carried_by}
use Rattle.memory.specs.Memory.{stored_of, entries_of}
use Rattle.memory.proofs.Octets.{block_octets, entries_in_octets}
use Rattle.reports.specs.Source.{echo_of, failure, dump_head, check_head}
use Rattle.laying.proofs.Checking.{entries_octets}
use Rattle.decide.proofs.Details.{detail_small}
use Rattle.terminal.specs.Act.{dump_most}
use Rattle.terminal.specs.Outcome.{Input, verdict_on, reports_on}
use Rattle.terminal.proofs.Sizes.{echo_most, failed_most, dumped_most}
use Rattle.framing.specs.Framing.{InOctets}
use Rattle.framing.proofs.Reports.{OfService, due_each}

-- ---- octets

-- The number of a verdict has 16 bits.
pub number_small : (v : Verdict) → number_of v < 65536
unfolding every
number_small (Ok _) = omega arith
number_small (Err r) = omega (arith, leb-true (check_number r.check) 65535 (every_number (λ (n : ℕ). leb n 65535) refl r.check))

service_sendable : (d store : List ℕ) → Octets d → Octets store → OfService Sendable d store
service_sendable d store h l = record {
  dumps = λ a b small read.
      record {
        kind = omega arith;
        subtype = omega arith;
        source =
            append_octets (dump_head (memory_id d) b.start b.words) (stored_of a store b)
            (append_octets (memory_id d ∷ 1 ∷ []) (octets32 b.start ++ octets16 b.words)
            (octets_of (memory_id d ∷ 1 ∷ []) (h 0, (omega arith, tt)))
            (block_octets d h (carried_by Dump) b read))
            (stored_octets a store b.start b.words l);
      };
  checks = λ a few.
      record {
        kind = omega arith;
        subtype = omega arith;
        source =
            append_octets (check_head (memory_id d) (block_count d)) (entries_of a store (blocks_of (carried_by Check) d))
            (octets_of (check_head (memory_id d) (block_count d)) (h 0, (h 1, tt)))
            (entries_in_octets d h (carried_by Check) a store (blocks_of (carried_by Check) d) (blocks_read (carried_by Check) d (block_count d) first_place));
      };
  connects = record { kind = omega arith; subtype = omega arith; source = octets_of [] tt };
}

-- Each report due on octets is octets.
pub reports_sendable : (i : Input) → InOctets i → Each Sendable (reports_on i)
reports_sendable i h =
    let packet : List ℕ = i.packet in
    let v : Verdict = verdict_on i in
    let front : Octets (echo_of packet) = take_octets 4 packet h.packet in
    due_each Sendable i
    record {
      echoes = λ subtype small. record { kind = omega arith; subtype = small; source = front };
      fails = record {
        kind = omega arith;
        subtype = omega arith;
        source =
            append_octets (echo_of packet) (failure (number_of v) (detail_of v)) front
            (append_octets (octets16 (number_of v)) (octets16 (detail_of v))
            (octets16_octets (number_of v) (number_small v))
            (octets16_octets (detail_of v) (detail_small packet h.packet i.profile i.state (length i.store) (length i.out))));
      };
      served = service_sendable (application_of packet) i.store (application_octets packet h.packet) h.store;
    }

-- ---- how many

-- A report whose frame is no longer than the longest.
abbrev pub Short : Report → Type 0
Short r = frame_head + length r.source ≤ dump_most

-- Each report due is short.
pub reports_short : (i : Input) → Each Short (reports_on i)
reports_short i =
    let d : List ℕ = application_of i.packet in
    due_each Short i
    record {
      echoes = λ subtype small. omega (arith, echo_most true subtype i.packet);
      fails = omega (arith, failed_most (verdict_on i) i.packet);
      served = record {
        dumps = λ a b small read. omega (arith, dumped_most a (memory_id d) i.store b small);
        checks = λ a few.
            omega (arith, entries_octets a d i.store, length-append (check_head (memory_id d) (block_count d)) (entries_of a i.store (blocks_of (carried_by Check) d)));
        connects = omega arith;
      };
    }
