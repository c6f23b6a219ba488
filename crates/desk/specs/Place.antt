-- What goes from line to line in a program over lines: its desk, the store and the output buffer.
use Rattle.std.specs.Prelude.{Option, ℕ, Bool, true, List, None, Some, is_some}
use Rattle.std.specs.Borrow.{MutBor}
use Rattle.map.specs.declared.Profile.{Profile}
use Rattle.counts.specs.Counts.{no_counts}
use Rattle.decide.specs.declared.State.{State}
use Rattle.unit.specs.declared.Draft.{Draft}
use Rattle.lineunit.specs.Unit.{line_profile}
use Rattle.hexline.specs.Line.{Station}
use Rattle.packline.specs.declared.Halt.{Halt}
use Rattle.grouping.specs.declared.Group.{Group}
use Rattle.grouping.specs.Group.{next_number, no_group}
use Rattle.desk.specs.declared.Desk.{Desk}

-- A desk, the store and the output buffer.
pub record Place : Type 0 where
  pub desk : Desk
  pub store : List ℕ
  pub out : List ℕ

-- The desk, the store and the buffer that a function is lent.
abbrev pub place_of : Desk → MutBor (List ℕ) → MutBor (List ℕ) → Place
place_of desk store out = record { desk = desk; store = store.now; out = out.now }

-- A desk before the first line: counts of 0, no line passed, no group, nothing that stops the program.
abbrev pub desk_for : Draft → Desk
desk_for draft = record { draft = draft; state = record { counts = no_counts }; number = 0; group = no_group; halt = None }

-- The line program's unit, all of it stated: its profile, and a store of 128 octets.
abbrev pub line_draft : Draft
line_draft = record { profile = line_profile; pid = true; services = true; store = true; stored = 128 }

-- The profile, and what the terminal works on.
abbrev pub profile_at : Place → Profile
profile_at m = m.desk.draft.profile

abbrev pub station_at : Place → Station
station_at m = record { machine = record { state = m.desk.state; store = m.store }; out = m.out }

-- A desk with another unit, other counts, at another place of a record, one line further, or with a reason to stop.
abbrev pub with_draft : Desk → Draft → Desk
with_draft d draft = record { draft = draft; state = d.state; number = d.number; group = d.group; halt = d.halt }

abbrev pub with_state : Desk → State → Desk
with_state d state = record { draft = d.draft; state = state; number = d.number; group = d.group; halt = d.halt }

abbrev pub with_group : Desk → Group → Desk
with_group d group = record { draft = d.draft; state = d.state; number = d.number; group = group; halt = d.halt }

abbrev pub counted : Desk → Desk
counted d = record { draft = d.draft; state = d.state; number = next_number d.number; group = d.group; halt = d.halt }

-- It with a reason to stop, or with none, and with one.
abbrev pub with_halt : Desk → Option Halt → Desk
with_halt d halt = record { draft = d.draft; state = d.state; number = d.number; group = d.group; halt = halt }

abbrev pub halting : Desk → Halt → Desk
halting d halt = with_halt d (Some halt)

-- Whether the program has stopped.
abbrev pub is_halted : Desk → Bool
is_halted d = is_some d.halt

-- A place with another desk, one line further, or with what the terminal left.
abbrev pub at_desk : Place → Desk → Place
at_desk m desk = record { desk = desk; store = m.store; out = m.out }

abbrev pub counting : Place → Place
counting m = at_desk m (counted m.desk)

abbrev pub at_station : Desk → Station → Place
at_station desk s = record { desk = with_state desk s.machine.state; store = s.machine.store; out = s.out }
