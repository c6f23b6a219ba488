-- What the reader of unit files leaves of the store, and why it stops.
-- Assumes nothing.
use mathlib.Core.Path.{◌≡◌, refl}
use mathlib.Core.Bool.{true, false≢true}
use mathlib.Core.List.{List}
use Prim.Native.Nat.{ℕ}
use Rattle.std.specs.Prelude.{Option, None, Some, Result, Ok, Err, is_some}
use Rattle.laws.proofs.Tests.{by-test}
use Rattle.octets.specs.Numbers.{Octets}
use Rattle.stating.specs.declared.fault.Fault.{Fault}
use Rattle.stating.specs.declared.fault.Fault.TheVariants.{LineLong}
use Rattle.unit.specs.declared.Draft.{Draft}
use Rattle.unit.specs.Unit.{end_fault}
use Rattle.unitline.specs.Line.{line_stated}
use Rattle.unitline.proofs.Octets.{put_octets}
use Rattle.packline.specs.declared.Halt.{Halt}
use Rattle.packline.specs.declared.Halt.TheVariants.{Unit}
use Rattle.desk.specs.declared.Desk.{Desk}
use Rattle.desk.specs.Place.{is_halted}
use Rattle.unitstep.specs.Step.{stated_desk, missing_desk, unit_desk, unit_store, unit_long_desk, unit_end}

-- A line leaves a store of octets one.
pub unit_octets : (d : Desk) (store line : List ℕ) → Octets store → Octets (unit_store d store line)
unfolding unit_store
unit_octets d store line h = by-test (is_halted d) (λ t. rw t h) (λ e. rw e (put_octets d.draft store line h))

-- Nothing stops the reader but a fault.
pub data ByFault : Option Halt → Type 0 where
  going : ByFault None
  faulty : (fault : Fault) → ByFault (Some (Unit fault))

pub fault_there : (h : Option Halt) → ByFault h → is_some h ≡ true → (fault : Fault) × (h ≡ Some (Unit fault))
fault_there h going e = absurd (false≢true e)
fault_there h (faulty fault) e = (fault, refl)

module _ (d : Desk) (by : ByFault d.halt) where
  stated_fault : (s : Result Draft Fault) → ByFault (stated_desk d s).halt
  stated_fault (Ok draft) = by
  stated_fault (Err fault) = faulty fault

  missing_fault : (f : Option Fault) → ByFault (missing_desk d f).halt
  missing_fault None = by
  missing_fault (Some fault) = faulty fault

  pub line_fault : (line : List ℕ) → ByFault (unit_desk d line).halt
  unfolding unit_desk
  line_fault line = by-test (is_halted d) (λ t. rw t by) (λ e. rw e (stated_fault (line_stated d.draft line)))

  pub long_fault : ByFault (unit_long_desk d).halt
  unfolding unit_long_desk
  long_fault = by-test (is_halted d) (λ t. rw t by) (λ e. rw e (faulty LineLong))

  pub last_fault : ByFault (unit_end d).halt
  unfolding unit_end
  last_fault = by-test (is_halted d) (λ t. rw t by) (λ e. rw e (missing_fault (end_fault d.draft)))
