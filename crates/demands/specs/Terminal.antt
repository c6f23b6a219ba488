-- Any terminal at all, and its answers to packets in turn. The terminal of document 01 is one of them.
use Rattle.std.specs.Prelude.{List, length, Option}
use Rattle.laws.specs.Fold.{answers}
use Rattle.checks.specs.declared.Refusal.{Refusal}
use Rattle.checks.specs.Table.{Row}
use Rattle.tc.specs.Layout.{fields_of}
use Rattle.map.specs.declared.Profile.{Profile}
use Rattle.requests.specs.declared.Request.{Request}
use Rattle.addressing.specs.Requested.{asked_by}
use Rattle.decide.specs.Table.{rows}
use Rattle.terminal.specs.Outcome.{Input, outcome_of, out_after, store_on}
use Rattle.terminal.specs.Run.{Machine, Step, Answer, input_for}

-- A terminal: what it answers to an input.
abbrev pub Terminal : Type 0
Terminal = Input → Answer

-- The terminal of document 01; the contract of `terminal::answer` permits no other answer.
abbrev pub reference : Terminal
reference i = record { outcome = outcome_of i; out = out_after i; store = store_on i }

-- The table of checks on an input.
abbrev pub rows_on : Input → List (Row Refusal)
rows_on i = rows i.profile i.state (length i.store) (length i.out) i.packet

-- What a packet asks for.
abbrev pub asked_on : Input → Option Request
asked_on i = asked_by (fields_of i.packet)

-- What a terminal's own answer leaves for the next packet.
abbrev pub leaves : Terminal → Profile → Machine → Step → Machine
leaves f p m s = record { state = (f (input_for p m s)).outcome.state; store = (f (input_for p m s)).store }

-- A terminal's answers to some packets in turn, each from the state and the store that its own answer before left.
abbrev pub run_of : Terminal → Profile → Machine → List Step → List Answer
run_of f p m steps = answers (λ n s. f (input_for p n s)) (leaves f p) m steps
