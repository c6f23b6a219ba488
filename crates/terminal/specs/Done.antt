-- What each service does for an accepted packet.
use Rattle.std.specs.Prelude.{List, [], ◌∷◌, map, ℕ}
use Rattle.map.specs.declared.Area.{Area}
use Rattle.blocks.specs.Blocks.{memory_id, blocks_of}
use Rattle.tm.specs.Frame.{Report}
use Rattle.requests.specs.declared.Action.{Action}
use Rattle.requests.specs.declared.Action.TheVariants.{Load, Dump, Check}
use Rattle.serving.specs.declared.Task.{Task}
use Rattle.serving.specs.declared.Task.TheVariants.{Idle, Memory, Connection}
use Rattle.requests.specs.Request.{carried_by}
use Rattle.memory.specs.Memory.{loaded}
use Rattle.laying.specs.Reports.{dumped, checked, connected}

-- What was done: the service's reports, and the store afterwards.
pub record Done : Type 0 where
  pub reports : List Report
  pub store : List ℕ

-- Reports alone, and the store as it was.
abbrev pub reporting : List Report → List ℕ → Done
reporting reports store = record { reports = reports; store = store }

-- Service 6 on an area: a load writes and reports nothing, a dump reports each block, a check all of them in one.
abbrev pub memory_done : Area → Action → List ℕ → List ℕ → Done
memory_done a Load d store = record { reports = []; store = loaded a d (blocks_of (carried_by Load) d) store }
memory_done a Dump d store = reporting (map (dumped a (memory_id d) store) (blocks_of (carried_by Dump) d)) store
memory_done a Check d store = reporting (checked a d store ∷ []) store

-- What a task does, with the packet's application data.
abbrev pub done : Task → List ℕ → List ℕ → Done
done Idle d store = reporting [] store
done (Memory job) d store = memory_done job.area job.action d store
done Connection d store = reporting (connected ∷ []) store
