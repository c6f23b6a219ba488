-- docs/UNITS.md, "Items": those that stand once, `pid`, `services` and `store`: what each states, or what is wrong with it.
use Rattle.std.specs.Prelude.{Bool, cond, Result, Ok, Err, List, ℕ, drop}
use Rattle.map.specs.Sound.{store_most}
use Rattle.map.specs.Made.{all_flags}
use Rattle.stating.specs.declared.fault.Fault.{Fault}
use Rattle.stating.specs.declared.fault.Fault.TheVariants.{PidTwice, PidForm, PidLarge, ServicesTwice, ServicesForm, ServiceTwice, StoreTwice, StoreForm, StoreLarge}
use Rattle.stating.specs.Stating.{and_then, is_some, number_stated, no_flags, flags_from}
use Rattle.unit.specs.declared.Draft.{Draft}
use Rattle.once.specs.declared.Rule.{Rule}
use Rattle.unit.specs.Unit.{with_pid, with_services, with_store}

-- The number of an item that stands once: it is at most so large, and no word stands behind it.
unfoldable pub sole_stated : Bool → Rule → List (List ℕ) → Result ℕ Fault
sole_stated earlier rule ws =
    cond earlier (Err rule.twice)
    (and_then (number_stated rule.most rule.form rule.large ws) (λ n. cond (is_some (drop 1 ws)) (Err rule.form) (Ok n)))

-- The largest PID that a file can state.
abbrev pub pid_octet : ℕ
pid_octet = 255

-- `pid N`: once; at most 255.
abbrev pub pid_rule : Rule
pid_rule = record { most = pid_octet; twice = PidTwice; form = PidForm; large = PidLarge }

abbrev pub pid_stated : Draft → List (List ℕ) → Result Draft Fault
pid_stated d ws = and_then (sole_stated d.pid pid_rule ws) (λ n. Ok (with_pid d n))

-- `services WORD ..`: at most once; one or more services, each at most once, in any order.
abbrev pub services_stated : Draft → List (List ℕ) → Result Draft Fault
services_stated d ws =
    cond d.services (Err ServicesTwice)
    (cond (is_some ws)
    (and_then (flags_from all_flags ServicesForm ServiceTwice no_flags ws) (λ f. Ok (with_services d f)))
    (Err ServicesForm))

-- `store N`: once; at most 65,536.
abbrev pub store_rule : Rule
store_rule = record { most = store_most; twice = StoreTwice; form = StoreForm; large = StoreLarge }

abbrev pub store_stated : Draft → List (List ℕ) → Result Draft Fault
store_stated d ws = and_then (sole_stated d.store store_rule ws) (λ n. Ok (with_store d n))
