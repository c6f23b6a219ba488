-- docs/UNITS.md: what a line of a unit file does at a desk, and the end of the file.
use Rattle.std.specs.Prelude.{cond, List, ℕ, Option, None, Some, Result, Ok, Err}
use Rattle.stating.specs.declared.fault.Fault.{Fault}
use Rattle.stating.specs.declared.fault.Fault.TheVariants.{LineLong}
use Rattle.unit.specs.declared.Draft.{Draft}
use Rattle.unit.specs.Unit.{end_fault}
use Rattle.unitline.specs.Line.{line_stated, line_put}
use Rattle.packline.specs.declared.Halt.TheVariants.{Unit}
use Rattle.desk.specs.declared.Desk.{Desk}
use Rattle.desk.specs.Place.{Place, with_draft, counted, halting, is_halted}

-- Behind its first bad line, which is counted, nothing of a unit file is read.
abbrev pub bad_desk : Desk → Fault → Desk
bad_desk d fault = halting (counted d) (Unit fault)

-- Behind a line goes on what it states; where something is wrong with it, the unit is as it was.
abbrev pub stated_desk : Desk → Result Draft Fault → Desk
stated_desk d (Ok draft) = counted (with_draft d draft)
stated_desk d (Err fault) = bad_desk d fault

-- The reader of unit files says nothing.
unfoldable pub unit_desk : Desk → List ℕ → Desk
unit_desk d line = cond (is_halted d) d (stated_desk d (line_stated d.draft line))

unfoldable pub unit_store : Desk → List ℕ → List ℕ → List ℕ
unit_store d store line = cond (is_halted d) store (line_put d.draft store line)

abbrev pub unit_becomes : Place → List ℕ → Place
unit_becomes m line = record { desk = unit_desk m.desk line; store = unit_store m.desk m.store line; out = m.out }

unfoldable pub unit_long_desk : Desk → Desk
unit_long_desk d = cond (is_halted d) d (bad_desk d LineLong)

-- At the end of a unit file something may be missing: the bad line is the one after the last.
abbrev pub missing_desk : Desk → Option Fault → Desk
missing_desk d None = d
missing_desk d (Some fault) = bad_desk d fault

unfoldable pub unit_end : Desk → Desk
unit_end d = cond (is_halted d) d (missing_desk d (end_fault d.draft))
