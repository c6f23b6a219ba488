-- Behind a unit file: its store has octets, and nothing but a fault has stopped the reader.
-- Assumes nothing.
use mathlib.Core.Path.{◌≡◌}
use mathlib.Core.Bool.{true}
use mathlib.Core.List.{List, [], ◌∷◌}
use Prim.Native.Nat.{ℕ}
use lib.ListN.{length}
use lib.Dec.{leb}
use Rattle.std.specs.Prelude.{Some}
use Rattle.laws.specs.Fold.{reached}
use Rattle.laws.proofs.Tests.{by-test}
use Rattle.octets.specs.Numbers.{Octets}
use Rattle.octets.proofs.Octets.{zero_octets}
use Rattle.lines.specs.Lines.{lines_of}
use Rattle.lines.specs.Feed.{line_becomes}
use Rattle.packetline.specs.Packet.{line_most}
use Rattle.map.specs.Sound.{store_most}
use Rattle.stating.specs.declared.fault.Fault.{Fault}
use Rattle.packline.specs.declared.Halt.TheVariants.{Unit}
use Rattle.desk.specs.Place.{Place, is_halted}
use Rattle.unitstep.proofs.Units.{unit_octets, ByFault, going, fault_there, line_fault, long_fault, last_fault}
use Rattle.tasks.specs.declared.Task.TheVariants as Tasks
use Rattle.tasks.specs.Tasks.{task_program}
use Rattle.feeding.specs.Output.{unit_first, unit_behind, unit_of}

-- What goes on behind a line of a unit file.
abbrev behind : Place → List ℕ → Place
behind m line = line_becomes (task_program Tasks.Unit) m line

-- What each line keeps, the whole file keeps.
reached_keeps : (Kept : Place → Type 0) → ((m : Place) (line : List ℕ) → Kept m → Kept (behind m line))
    → (m : Place) (lines : List (List ℕ)) → Kept m → Kept (reached behind m lines)
unfolding reached
reached_keeps Kept keeps m [] h = h
reached_keeps Kept keeps m (l ∷ ls) h = reached_keeps Kept keeps (behind m l) ls (keeps m l h)

abbrev StoreOctets : Place → Type 0
StoreOctets m = Octets m.store

line_octets : (m : Place) (line : List ℕ) → StoreOctets m → StoreOctets (behind m line)
line_octets m line h = by-test (leb (length line) line_most) (λ t. rw t (unit_octets m.desk m.store line h)) (λ e. rw e h)

-- What a unit file states of its store is octets.
pub behind_octets : (file : List ℕ) → Octets (unit_behind file).store
unfolding unit_behind
behind_octets file = reached_keeps StoreOctets line_octets unit_first (lines_of file) (zero_octets store_most)

abbrev StopsByFault : Place → Type 0
StopsByFault m = ByFault m.desk.halt

keeps_fault : (m : Place) (line : List ℕ) → StopsByFault m → StopsByFault (behind m line)
keeps_fault m line h = by-test (leb (length line) line_most) (λ t. rw t (line_fault m.desk h line)) (λ e. rw e (long_fault m.desk h))

-- A bad unit file has a fault.
pub unit_fault : (file : List ℕ) → is_halted (unit_of file) ≡ true → (fault : Fault) × ((unit_of file).halt ≡ Some (Unit fault))
unfolding unit_behind
unit_fault file h =
    fault_there (unit_of file).halt (last_fault (unit_behind file).desk (reached_keeps StopsByFault keeps_fault unit_first (lines_of file) going)) h
