-- Document 01, "Refusal numbers in checking order": 0, 3 and 4, and then the rows of the service asked.
use Rattle.std.specs.Prelude.{List, [], ◌∷◌, ℕ, ◌+◌, ◌*◌, eqb, Some, None, Option}
use Rattle.octets.specs.declared.copy.Span.{Span}
use Rattle.fields.specs.Fields.{apid_of}
use Rattle.checks.specs.declared.Check.TheVariants.{Apid, Service, Subtype}
use Rattle.checks.specs.declared.Refusal.{Refusal}
use Rattle.checks.specs.Table.{Row}
use Rattle.checks.specs.Verdict.{row}
use Rattle.tc.specs.declared.Fields.{Fields}
use Rattle.tc.specs.Layout.{category}
use Rattle.map.specs.declared.Profile.{Profile}
use Rattle.requests.specs.declared.Request.TheVariants.{Memory as Asks, Connection}
use Rattle.requests.specs.declared.Request.{Request}
use Rattle.serving.specs.declared.Task.{Task}
use Rattle.serving.specs.declared.Task.TheVariants.{Idle, Connection as Connect}
use Rattle.requests.specs.Request.{serves, asked_for, offers, area_named}
use Rattle.serving.specs.Decision.{work, Decision, decided_by}
use Rattle.serving.specs.Services.{memory_rows, memory_task, connection_rows}

-- ---- the service asked

-- The rows of the service asked.
abbrev pub service_rows : Profile → Option Request → List ℕ → List (Row Refusal)
service_rows p (Some (Asks action)) d = memory_rows p action d
service_rows p (Some Connection) d = connection_rows d
service_rows p None d = []

-- What the service asked is to do.
abbrev pub task_for : Profile → Option Request → List ℕ → Task
task_for p (Some (Asks action)) d = memory_task (area_named p d) action
task_for p (Some Connection) d = Connect
task_for p None d = Idle

-- ---- 0, 3 and 4 before it

-- What a packet's fields ask for.
abbrev pub asked_by : Fields → Option Request
asked_by f = asked_for f.kind f.subtype

-- 0, 3 and 4, and then those of the service asked.
unfoldable pub request_rows : Profile → Fields → List ℕ → List (Row Refusal)
request_rows p f d =
    row Apid f.apid (eqb f.apid (apid_of p.pid category))
    ∷ row Service f.kind (serves p.flags f.kind)
    ∷ row Subtype (f.kind * 256 + f.subtype) (offers p.flags (asked_by f))
    ∷ service_rows p (asked_by f) d

-- ---- what is decided, from fields and data that were read

abbrev pub service_decision : Profile → Option Request → ℕ → Span → List ℕ → Decision
service_decision p asked ack «data» d = decided_by (work (task_for p asked d) ack «data») (service_rows p asked d)

abbrev pub request_decision : Profile → Fields → Span → List ℕ → Decision
request_decision p f «data» d = decided_by (work (task_for p (asked_by f) d) f.ack «data») (request_rows p f d)
