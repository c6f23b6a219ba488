-- What a caller is promised of an answer that is written into a text from a place on.
use Rattle.std.specs.Prelude.{◌≡◌, List, ℕ}
use Rattle.std.specs.Borrow.{MutBor}
use Rattle.lines.specs.Feed.{Lent}
use Rattle.saying.specs.Text.{Says}
use Rattle.map.specs.declared.Profile.{Profile}
use Rattle.decide.specs.declared.State.{State}
use Rattle.terminal.specs.declared.Outcome.{Outcome}
use Rattle.terminal.specs.Outcome.{Answered}
use Rattle.hexline.specs.declared.Written.{Written}
use Rattle.hexline.specs.Line.{Station, packet_input, packet_in}

-- The state, the store and the output buffer that a function is lent.
abbrev pub station_of : State → MutBor (List ℕ) → MutBor (List ℕ) → Station
station_of state store out = record { machine = record { state = state; store = store.now }; out = out.now }

-- Every part of the outcome, by an equation.
pub record Said (answer : List ℕ) (after : Station) (at : ℕ) (text : List ℕ) (r : Written) (store out text' : List ℕ) : Type 0 where
  pub says : Says answer at text r.at text'
  pub state_is : r.state ≡ after.machine.state
  pub store_is : store ≡ after.machine.store
  pub out_is : out ≡ after.out

-- The same over what the function is lent, from what is said and what the machine becomes.
abbrev pub SaidBy : (Station → List ℕ) → (Station → Station) → State → ℕ → Lent → Lent → Lent → Written → Type 0
SaidBy says becomes state at store out text r =
    Said (says (station_of state store.entry out.entry)) (becomes (station_of state store.entry out.entry))
    at text.entry.now r store.exit.now out.exit.now text.exit.now

-- What is promised of a line's packet at the terminal.
abbrev pub ServedBy : Profile → State → List ℕ → Lent → Lent → Outcome → Type 0
ServedBy p state line store out r =
    Answered (packet_input p (station_of state store.entry out.entry) (packet_in line)) r store.exit.now out.exit.now
