-- What every report due has: what an echo, a failure and each service's report have.
-- Assumes nothing.
use mathlib.Core.Path.{◌≡◌, subst}
use mathlib.Core.Bool.{Bool, true, false}
use mathlib.Core.List.{List, ◌++◌}
use Prim.Native.Nat.{ℕ, ◌≤◌, ◌<◌}
use native.Mathlib.Omega.{arith}
use Rattle.laws.specs.Each.{Each}
use Rattle.laws.proofs.Each.{each_so, each_both, each_append, each_map}
use Rattle.laws.proofs.Tests.{by-test}
use Rattle.checks.specs.Verdict.{is_accepted, silent}
use Rattle.tc.specs.Layout.{fields_of, application_of}
use Rattle.map.specs.declared.Area.{Area}
use Rattle.map.specs.Place.{dump_words}
use Rattle.blocks.specs.declared.Block.{Block}
use Rattle.blocks.specs.Blocks.{first_place, memory_id, block_count, blocks_of}
use Rattle.blocks.specs.Form.{blocks_most}
use Rattle.blocks.proofs.Blocks.{blocks_read}
use Rattle.blocks.proofs.Octets.{ReadIn}
use Rattle.blocks.proofs.WellFormed.{head_facts, right_bounds}
use Rattle.tm.specs.Frame.{Report}
use Rattle.requests.specs.declared.Action.{Action}
use Rattle.requests.specs.declared.Action.TheVariants.{Load, Dump, Check}
use Rattle.requests.specs.Request.{carried_by, most_words}
use Rattle.laying.specs.Reports.{echo, failed, dumped, checked, connected, asked, asks_acceptance, asks_completion}
use Rattle.serving.specs.declared.Task.{Task}
use Rattle.serving.specs.declared.Task.TheVariants.{Idle, Memory, Connection}
use Rattle.decide.specs.Table.{task_of}
use Rattle.serving.specs.Services.{Formed, FormedFor}
use Rattle.terminal.specs.Done.{memory_done, done}
use Rattle.terminal.specs.Outcome.{Input, done_by, reports_for, verdict_on, reports_on}
use Rattle.terminal.proofs.Answering.{accepted-due, accepted-formed, refused-due, silent-due}

-- Every report that a service may give on well formed data has a property.
pub record OfService (P : Report → Type 0) (d store : List ℕ) : Type 0 where
  pub dumps : (a : Area) (b : Block) → b.words ≤ dump_words → ReadIn (carried_by Dump) d b → P (dumped a (memory_id d) store b)
  pub checks : (a : Area) → block_count d ≤ blocks_most → P (checked a d store)
  pub connects : P connected

-- So has every report that an input may be answered with; the subtypes of an echo are octets.
pub record OfInput (P : Report → Type 0) (i : Input) : Type 0 where
  pub echoes : (subtype : ℕ) → subtype < 256 → P (echo subtype i.packet)
  pub fails : P (failed (verdict_on i) i.packet)
  pub served : OfService P (application_of i.packet) i.store

module _ (P : Report → Type 0) where
  memory_each : (a : Area) (action : Action) (d store : List ℕ) → Formed action d → OfService P d store → Each P (memory_done a action d store).reports
  memory_each a Load d store formed s = tt
  memory_each a Dump d store formed s =
      let blocks : List Block = blocks_of (carried_by Dump) d in
      each_map P (dumped a (memory_id d) store) blocks
      (each_so blocks
      (λ b h. s.dumps a b h.0.most h.1)
      (each_both _ _ blocks (right_bounds (carried_by Dump) (most_words Dump) d formed.1) (blocks_read (carried_by Dump) d (block_count d) first_place)))
  memory_each a Check d store formed s = (s.checks a (head_facts d formed.0).few, tt)

  done_each : (t : Task) (d store : List ℕ) → FormedFor t d → OfService P d store → Each P (done t d store).reports
  done_each Idle d store formed s = tt
  done_each (Memory job) d store formed s = memory_each job.area job.action d store formed s
  done_each Connection d store formed s = (s.connects, tt)

  asked_each : (asks : Bool) (r : Report) → P r → Each P (asked asks r)
  asked_each true r h = (h, tt)
  asked_each false r h = tt

  module _ (i : Input) (s : OfInput P i) where
    accepted_each : is_accepted (verdict_on i) ≡ true → Each P (reports_on i)
    unfolding reports_for
    accepted_each h =
        let packet : List ℕ = i.packet in
        let ack : ℕ = (fields_of packet).ack in
        let middle : List Report = (done_by i.profile packet i.store).reports in
        let last : List Report = asked (asks_completion ack) (echo 7 packet) in
        let all : Each P (reports_for ack packet middle) =
        each_append P (asked (asks_acceptance ack) (echo 1 packet)) (middle ++ last)
        (asked_each (asks_acceptance ack) (echo 1 packet) (s.echoes 1 (omega arith)))
        (each_append P middle last
        (done_each (task_of i.profile packet) (application_of packet) i.store (accepted-formed i h) s.served)
        (asked_each (asks_completion ack) (echo 7 packet) (s.echoes 7 (omega arith)))) in
        subst (Each P) (accepted-due i h) all

    -- What every report has that an input may be answered with, each report due has.
    pub due_each : Each P (reports_on i)
    due_each =
        by-test (is_accepted (verdict_on i))
        accepted_each
        (λ r.
        by-test (silent (verdict_on i))
        (λ q. subst (Each P) (silent-due i r q) tt)
        (λ h. subst (Each P) (refused-due i r h) (s.fails, tt)))
