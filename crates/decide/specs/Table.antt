-- Document 01, "Refusal numbers in checking order": the table of all checks, and the decision.
use Rattle.std.specs.Prelude.{Bool, ◌&&◌, List, [], ◌∷◌, ◌++◌, ℕ, leb}
use Rattle.checks.specs.declared.Check.TheVariants.{Buffer, Caller}
use Rattle.checks.specs.declared.Refusal.{Refusal}
use Rattle.checks.specs.Verdict.{Verdict}
use Rattle.checks.specs.Table.{Row}
use Rattle.checks.specs.Verdict.{row, verdict_by}
use Rattle.tc.specs.Layout.{fields_of, data_span, application_of}
use Rattle.reader.specs.Reader.{reader_rows}
use Rattle.map.specs.declared.Profile.{Profile}
use Rattle.map.specs.Sound.{sound, store_allowed}
use Rattle.counts.specs.Counts.{in_range}
use Rattle.decide.specs.declared.State.{State}
use Rattle.serving.specs.declared.Task.{Task}
use Rattle.serving.specs.declared.Work.{Work}
use Rattle.serving.specs.Decision.{work, Decision, decided_by}
use Rattle.addressing.specs.Requested.{task_for, asked_by, request_rows}

-- ---- what the caller hands in

-- The fewest octets of an output buffer.
abbrev pub out_least : ℕ
out_least = 4096

-- The profile is sound, the store neither odd nor too long, and no count handed in above 16,383.
unfoldable pub caller_right : Profile → State → ℕ → Bool
caller_right p state store = sound p store && store_allowed store && in_range state.counts

-- 40 and 41.
unfoldable pub caller_rows : Profile → State → ℕ → ℕ → List (Row Refusal)
caller_rows p state store out =
    row Buffer 0 (leb out_least out)
    ∷ row Caller 0 (caller_right p state store)
    ∷ []

-- ---- the whole table

-- Those on the packet itself: the reader's 42, 1, 2 and 16, then 0, 3, 4 and those of the service asked.
abbrev pub packet_rows : Profile → List ℕ → List (Row Refusal)
packet_rows p packet = reader_rows packet ++ request_rows p (fields_of packet) (application_of packet)

-- All of them: 40 and 41, and then those on the packet.
unfoldable pub rows : Profile → State → ℕ → ℕ → List ℕ → List (Row Refusal)
rows p state store out packet = caller_rows p state store out ++ packet_rows p packet

-- The verdict on a packet.
unfoldable pub decided : Profile → State → ℕ → ℕ → List ℕ → Verdict
decided p state store out packet = verdict_by (rows p state store out packet)

-- What an accepted packet has the terminal do.
abbrev pub task_of : Profile → List ℕ → Task
task_of p packet = task_for p (asked_by (fields_of packet)) (application_of packet)

-- The work of a packet that is accepted, with what was found on the way to acceptance.
abbrev pub accepting : Profile → List ℕ → Work
accepting p packet = work (task_of p packet) (fields_of packet).ack (data_span packet)

-- The decision on a packet by the checks on the packet itself.
unfoldable pub packet_decision : Profile → List ℕ → Decision
packet_decision p packet = decided_by (accepting p packet) (packet_rows p packet)

-- The decision on a packet by all of the checks.
unfoldable pub decision_of : Profile → State → ℕ → ℕ → List ℕ → Decision
decision_of p state store out packet = decided_by (accepting p packet) (rows p state store out packet)
