-- Areas and profiles made for examples: every right, every service, unused places blank.
use Rattle.std.specs.Prelude.{true, false, List, ◌++◌, ℕ, ◌-◌, length, replicate}
use Rattle.map.specs.declared.Rights.{Rights}
use Rattle.map.specs.declared.Flags.{Flags}
use Rattle.map.specs.declared.Area.{Area}
use Rattle.map.specs.declared.Profile.{Profile}
use Rattle.map.specs.Place.{areas_most}

-- Every right, and none.
abbrev pub all_rights : Rights
all_rights = record { load = true; dump = true; check = true }

abbrev pub no_rights : Rights
no_rights = record { load = false; dump = false; check = false }

-- Every service.
abbrev pub all_flags : Flags
all_flags = record { load = true; dump = true; check = true; connection = true }

-- An area with those rights.
abbrev pub area_with : Rights → ℕ → ℕ → ℕ → ℕ → Area
area_with rights id start length first = record { id = id; start = start; length = length; first = first; rights = rights }

-- An area with every right.
abbrev pub area_of : ℕ → ℕ → ℕ → ℕ → Area
area_of id start length first = area_with all_rights id start length first

-- An area place that is not used, all zero.
abbrev pub blank : Area
blank = area_with no_rights 0 0 0 0

-- A profile with that PID, those services and those areas.
abbrev pub profile_with : ℕ → Flags → List Area → Profile
profile_with pid flags areas = record {
  pid = pid;
  flags = flags;
  count = length areas;
  areas = areas ++ replicate (areas_most - length areas) blank;
}
