-- What a program marks by why it has stopped.
use Rattle.std.specs.Prelude.{◌≡◌, Option, Some, None, Result, Ok, Err}
use Rattle.std.specs.declared.ops.ControlFlow.{ControlFlow}
use Rattle.std.specs.declared.ops.ControlFlow.TheVariants.{Continue, Break}
use Rattle.console.specs.declared.Mark.{Mark}
use Rattle.console.specs.declared.Mark.TheVariants.{Fine, Differs, Failed}
use Rattle.console.specs.declared.Ended.{Ended}
use Rattle.console.specs.Marks.{worst}
use Rattle.feeding.specs.declared.Progress.{Progress}
use Rattle.packline.specs.declared.Halt.{Halt}
use Rattle.packline.specs.declared.Halt.TheVariants.{Differs as Parts}
use Rattle.desk.specs.declared.Desk.{Desk}
use Rattle.tasks.specs.declared.Task.{Task}
use Rattle.tasks.specs.declared.Task.TheVariants.{Judge}

-- A judge's verdict by why it stops: it does not, the record differs, or is refused.
abbrev pub halt_verdict : Option Halt → Mark
halt_verdict None = Fine
halt_verdict (Some Parts) = Differs
halt_verdict (Some _) = Failed

-- The verdict of a program: only a judge has one.
abbrev pub verdict_of : Task → Desk → Mark
verdict_of Judge d = halt_verdict d.halt
verdict_of _ d = Fine

-- What a program marks by the time that it is at its last desk: the verdict there.
abbrev pub MarksLast : Task → Mark → Result Desk Ended → Mark → Type 0
MarksLast task before (Ok last) after = after ≡ worst before (verdict_of task last)
MarksLast task before (Err _) after = Unit {0}

-- What it marks in a turn: nothing, where it goes on.
abbrev pub MarksTurn : Task → Mark → Result (ControlFlow Desk Progress) Ended → Mark → Type 0
MarksTurn task before (Ok (Continue next)) after = (after ≡ before) × (verdict_of task next.desk ≡ Fine)
MarksTurn task before (Ok (Break last)) after = after ≡ worst before (verdict_of task last)
MarksTurn task before (Err _) after = Unit {0}
