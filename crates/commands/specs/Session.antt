-- docs/CASES.md: what stays from line to line, what stands at the start, and what the octets of a command state.
use Rattle.std.specs.Prelude.{List, [], ◌∷◌, ℕ, ◌+◌, ◌*◌, ◌/◌, ◌%◌, take, replicate, eqb}
use Rattle.octets.specs.Numbers.{octet, word16, word32}
use Rattle.map.specs.declared.Rights.{Rights}
use Rattle.map.specs.declared.Flags.{Flags}
use Rattle.map.specs.declared.Area.{Area}
use Rattle.map.specs.declared.Profile.{Profile}
use Rattle.counts.specs.Counts.{no_counts, counts_in}
use Rattle.decide.specs.declared.State.{State}
use Rattle.commands.specs.declared.session.Session.{Session}
use Rattle.commands.specs.Form.{head_octets, area_octets}

-- The start under a profile: counts of 0, time zero, 128 octets of store, an output buffer of 4,096.
abbrev pub start_of : Profile → Session
start_of profile = record { profile = profile; state = record { counts = no_counts }; time = replicate 6 0; stored = 128; room = 4096 }

-- A session with one thing set.
abbrev pub with_profile : Session → Profile → Session
with_profile s profile = record { profile = profile; state = s.state; time = s.time; stored = s.stored; room = s.room }

abbrev pub with_state : Session → State → Session
with_state s state = record { profile = s.profile; state = state; time = s.time; stored = s.stored; room = s.room }

abbrev pub with_time : Session → List ℕ → Session
with_time s time = record { profile = s.profile; state = s.state; time = time; stored = s.stored; room = s.room }

abbrev pub with_stored : Session → ℕ → Session
with_stored s stored = record { profile = s.profile; state = s.state; time = s.time; stored = stored; room = s.room }

abbrev pub with_room : Session → ℕ → Session
with_room s room = record { profile = s.profile; state = s.state; time = s.time; stored = s.stored; room = room }

-- Flags: 1 load, 2 dump, 4 check, 8 connection.
abbrev pub flags_in : ℕ → Flags
flags_in x = record { load = eqb (x % 2) 1; dump = eqb (x / 2 % 2) 1; check = eqb (x / 4 % 2) 1; connection = eqb (x / 8 % 2) 1 }

-- Rights: 1 load, 2 dump, 4 check.
abbrev pub rights_in : ℕ → Rights
rights_in x = record { load = eqb (x % 2) 1; dump = eqb (x / 2 % 2) 1; check = eqb (x / 4 % 2) 1 }

-- The area that stands at a place: ID, start, length, first word, rights; octets past the end count as 0.
unfoldable pub area_from : List ℕ → ℕ → Area
area_from given at = record {
  id = octet given at;
  start = word32 given (at + 1);
  length = word32 given (at + 5);
  first = word32 given (at + 9);
  rights = rights_in (octet given (at + 13));
}

-- An area of a profile, counted from 0.
abbrev pub area_at : List ℕ → ℕ → Area
area_at given index = area_from given (head_octets + area_octets * index)

-- PID, flags, area count, and the areas; one that is not given is all zero.
unfoldable pub profile_in : List ℕ → Profile
profile_in given = record {
  pid = octet given 0;
  flags = flags_in (octet given 1);
  count = octet given 2;
  areas = area_at given 0 ∷ area_at given 1 ∷ area_at given 2 ∷ area_at given 3 ∷ area_at given 4 ∷ area_at given 5 ∷ area_at given 6 ∷ area_at given 7 ∷ [];
}

-- The counts of all categories.
abbrev pub state_in : List ℕ → State
state_in given = record { counts = counts_in given }

-- The six octets of time.
abbrev pub time_in : List ℕ → List ℕ
time_in given = octet given 0 ∷ octet given 1 ∷ octet given 2 ∷ octet given 3 ∷ octet given 4 ∷ octet given 5 ∷ []

-- What fills the output buffer: an octet, as often as the length before it says, and no more than 8,192 times.
abbrev pub filling : List ℕ → List ℕ
filling given = take (word16 given 0) (replicate 8192 (octet given 2))
