-- Document 01: what one packet does to counts, store and output buffer.
use Rattle.std.specs.Prelude.{◌≡◌, cond, List, [], ◌∷◌, ◌++◌, ℕ, ◌≤◌, length}
use Rattle.laws.specs.Fold.{joined}
use Rattle.octets.specs.Copy.{laid}
use Rattle.checks.specs.Verdict.{Verdict}
use Rattle.checks.specs.Verdict.{is_accepted, silent}
use Rattle.tc.specs.Layout.{fields_of, application_of}
use Rattle.map.specs.declared.Profile.{Profile}
use Rattle.tm.specs.Frame.{Report, time_of, frames_of, counts_after}
use Rattle.decide.specs.declared.State.{State}
use Rattle.decide.specs.Table.{decided, task_of}
use Rattle.terminal.specs.declared.Outcome.{Outcome}
use Rattle.laying.specs.Reports.{echo, failed, asked, asks_acceptance, asks_completion}
use Rattle.terminal.specs.Done.{Done, done}

-- What an accepted packet has done.
abbrev pub done_by : Profile → List ℕ → List ℕ → Done
done_by p packet store = done (task_of p packet) (application_of packet) store

-- The reports due for an accepted packet, in order: (1,1) if asked, the service's, (1,7) if asked.
unfoldable pub reports_for : ℕ → List ℕ → List Report → List Report
reports_for ack packet reports =
    asked (asks_acceptance ack) (echo 1 packet) ++ (reports ++ asked (asks_completion ack) (echo 7 packet))

-- The reports due for a verdict.
unfoldable pub reports_due : Profile → List ℕ → List ℕ → Verdict → List Report
reports_due p packet store v =
    cond (is_accepted v) (reports_for (fields_of packet).ack packet (done_by p packet store).reports) (cond (silent v) [] (failed v packet ∷ []))

-- The store afterwards: a refused packet changes no word.
unfoldable pub store_after : Profile → List ℕ → Verdict → List ℕ → List ℕ
store_after p packet v store = cond (is_accepted v) (done_by p packet store).store store

-- The state after some reports: their counts.
abbrev pub state_after : State → List Report → State
state_after s reports = record { counts = counts_after s.counts reports }

-- Everything that an answer may depend on.
pub record Input : Type 0 where
  pub profile : Profile
  pub state : State
  pub time : List ℕ
  pub packet : List ℕ
  pub store : List ℕ
  pub out : List ℕ

-- The verdict on an input.
abbrev pub verdict_on : Input → Verdict
verdict_on i = decided i.profile i.state (length i.store) (length i.out) i.packet

-- The reports due on an input.
abbrev pub reports_on : Input → List Report
reports_on i = reports_due i.profile i.packet i.store (verdict_on i)

-- The frames due; time is six octets.
unfoldable pub frames_due : Input → List (List ℕ)
frames_due i = frames_of i.profile.pid (time_of i.time) i.state.counts (reports_on i)

-- Their octets, one frame behind another.
abbrev pub octets_due : Input → List ℕ
octets_due i = joined (frames_due i)

-- The answer: verdict, octets written and state afterwards.
unfoldable pub outcome_of : Input → Outcome
outcome_of i = record { verdict = verdict_on i; written = length (octets_due i); state = state_after i.state (reports_on i) }

-- The output buffer afterwards: the frames due fill its front, and octets beyond keep their value.
unfoldable pub out_after : Input → List ℕ
out_after i = laid i.out 0 (octets_due i)

-- The store afterwards.
unfoldable pub store_on : Input → List ℕ
store_on i = store_after i.profile i.packet (verdict_on i) i.store

-- An input put together.
abbrev pub input : Profile → State → List ℕ → List ℕ → List ℕ → List ℕ → Input
input profile state time packet store out = record { profile = profile; state = state; time = time; packet = packet; store = store; out = out }

-- The most octets of an answer.
abbrev pub answer_most : ℕ
answer_most = 4072

-- What a caller is promised: every part of the outcome, by an equation, and that it never exceeds 4,072 octets.
pub record Answered (i : Input) (outcome : Outcome) (store out : List ℕ) : Type 0 where
  pub outcome_is : outcome ≡ outcome_of i
  pub most : outcome.written ≤ answer_most
  pub store_is : store ≡ store_on i
  pub out_is : out ≡ out_after i
