-- A decision: the work of a packet that is accepted, or its refusal.
use Rattle.std.specs.Prelude.{List, ℕ, Result, Ok, Err}
use Rattle.octets.specs.declared.copy.Span.{Span}
use Rattle.checks.specs.declared.Refusal.{Refusal}
use Rattle.checks.specs.Verdict.{Verdict}
use Rattle.checks.specs.Table.{Row, answer}
use Rattle.serving.specs.declared.Task.{Task}
use Rattle.serving.specs.declared.Work.{Work}

-- The work with that task, ack and application data.
abbrev pub work : Task → ℕ → Span → Work
work task ack «data» = record { task = task; ack = ack; «data» = «data» }

-- What is decided on a packet: the work of one that is accepted, or the refusal of the first check that fails.
abbrev pub Decision : Type 0
Decision = Result Work Refusal

-- The verdict of a decision.
abbrev pub verdict_of : Decision → Verdict
verdict_of (Ok w) = Ok tt
verdict_of (Err r) = Err r

-- The decision of some rows: the refusal of the first that does not hold, or acceptance with that work.
abbrev pub decided_by : Work → List (Row Refusal) → Decision
decided_by w rows = answer (Ok w) Err rows
