-- docs/UNITS.md, "Items": the unit that a file states so far, what an item adds to it, and what is missing at the end.
use Rattle.std.specs.Prelude.{true, false, cond, Option, Some, None, ℕ, ◌+◌, set, replicate}
use Rattle.map.specs.declared.Flags.{Flags}
use Rattle.map.specs.declared.Area.{Area}
use Rattle.map.specs.Place.{areas_most}
use Rattle.map.specs.Made.{blank}
use Rattle.stating.specs.declared.fault.Fault.{Fault}
use Rattle.stating.specs.declared.fault.Fault.TheVariants.{NoPid, NoStore}
use Rattle.stating.specs.Stating.{no_flags}
use Rattle.unit.specs.declared.Draft.{Draft}

-- Before the first line nothing is stated.
abbrev pub nothing_stated : Draft
nothing_stated = record {
  profile = record { pid = 0; flags = no_flags; count = 0; areas = replicate areas_most blank };
  pid = false;
  services = false;
  store = false;
  stored = 0;
}

-- A draft with its PID stated, its services, its store, or one area more.
abbrev pub with_pid : Draft → ℕ → Draft
with_pid d pid = record d { profile = record d.profile { pid = pid }; pid = true }

abbrev pub with_services : Draft → Flags → Draft
with_services d flags = record d { profile = record d.profile { flags = flags }; services = true }

abbrev pub with_store : Draft → ℕ → Draft
with_store d octets = record d { store = true; stored = octets }

abbrev pub with_area : Draft → Area → Draft
with_area d a = record d { profile = record d.profile { count = d.profile.count + 1; areas = set d.profile.areas d.profile.count a } }

-- What is wrong at the end: `pid` or `store` is missing.
unfoldable pub end_fault : Draft → Option Fault
end_fault d = cond d.pid (cond d.store None (Some NoStore)) (Some NoPid)
