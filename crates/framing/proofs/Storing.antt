-- What a packet leaves in the store: octets.
-- Assumes nothing.
use mathlib.Core.Path.{subst}
use mathlib.Core.List.{List}
use Prim.Native.Nat.{ℕ}
use Rattle.laws.proofs.Tests.{by-test}
use Rattle.octets.specs.Numbers.{Octets}
use Rattle.checks.specs.Verdict.{is_accepted}
use Rattle.tc.specs.Layout.{application_of}
use Rattle.reader.proofs.Details.{application_octets}
use Rattle.map.specs.declared.Area.{Area}
use Rattle.blocks.specs.Blocks.{blocks_of}
use Rattle.requests.specs.declared.Action.{Action}
use Rattle.requests.specs.declared.Action.TheVariants.{Load, Dump, Check}
use Rattle.requests.specs.Request.{carried_by}
use Rattle.memory.proofs.Octets.{loaded_octets}
use Rattle.serving.specs.declared.Task.{Task}
use Rattle.serving.specs.declared.Task.TheVariants.{Idle, Memory, Connection}
use Rattle.decide.specs.Table.{task_of}
use Rattle.terminal.specs.Done.{memory_done, done}
use Rattle.terminal.specs.Outcome.{Input, verdict_on, store_on}
use Rattle.terminal.proofs.Answering.{accepted_store, refused_store}
use Rattle.framing.specs.Framing.{InOctets}

module _ (d : List ℕ) (octets : Octets d) where
  memory_octets : (a : Area) (action : Action) (store : List ℕ) → Octets store → Octets (memory_done a action d store).store
  memory_octets a Load store h = loaded_octets d octets a (blocks_of (carried_by Load) d) store h
  memory_octets a Dump store h = h
  memory_octets a Check store h = h

  done_octets : (t : Task) (store : List ℕ) → Octets store → Octets (done t d store).store
  done_octets Idle store h = h
  done_octets (Memory job) store h = memory_octets job.area job.action store h
  done_octets Connection store h = h

-- Where packet and store are octets, the store stays octets.
pub store_octets : (i : Input) → InOctets i → Octets (store_on i)
store_octets i h =
    by-test (is_accepted (verdict_on i))
    (λ accepted.
    subst Octets (accepted_store i accepted)
    (done_octets (application_of i.packet) (application_octets i.packet h.packet) (task_of i.profile i.packet) i.store h.store))
    (λ refused. subst Octets (refused_store i refused) h.store)
