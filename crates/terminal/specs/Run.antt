-- What goes from packet to packet, what comes in and what goes out: packets are answered one after another, each from the state and the store that the one before left.
use Rattle.std.specs.Prelude.{List, ℕ}
use Rattle.map.specs.declared.Profile.{Profile}
use Rattle.decide.specs.declared.State.{State}
use Rattle.terminal.specs.declared.Outcome.{Outcome}
use Rattle.terminal.specs.Outcome.{Input, input, outcome_of, store_on}

-- What goes from packet to packet.
pub record Machine : Type 0 where
  pub state : State
  pub store : List ℕ

-- What comes in: a packet, its time, and an output buffer.
pub record Step : Type 0 where
  pub packet : List ℕ
  pub time : List ℕ
  pub out : List ℕ

-- What goes out: the answer, the output buffer afterwards, and the store afterwards.
pub record Answer : Type 0 where
  pub outcome : Outcome
  pub out : List ℕ
  pub store : List ℕ

-- A step as an input, under a profile and from a machine.
abbrev pub input_for : Profile → Machine → Step → Input
input_for p m s = input p m.state s.time s.packet m.store s.out

-- What the machine becomes.
abbrev pub after : Profile → Machine → Step → Machine
after p m s = record { state = (outcome_of (input_for p m s)).state; store = store_on (input_for p m s) }
