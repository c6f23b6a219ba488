-- A program over lines that is fed its input in parts: how far it has come before the first read, and what is promised of the answer to a piece of a line.
use Rattle.std.specs.Prelude.{ℕ}
use Rattle.lines.specs.Cuts.{started}
use Rattle.lines.specs.Pieces.{Piece}
use Rattle.lines.specs.Turn.{Program}
use Rattle.lines.specs.Feed.{Lent, over_pieces}
use Rattle.tasks.specs.declared.Task.{Task}
use Rattle.desk.specs.declared.Desk.{Desk}
use Rattle.desk.specs.declared.Done.{Done}
use Rattle.desk.specs.Place.{Place}
use Rattle.tasks.specs.Tasks.{task_program}
use Rattle.desk.specs.Did.{DidBy}
use Rattle.feeding.specs.declared.Progress.{Progress}

-- A program over the pieces of lines.
abbrev pub piece_program : Task → Program Place
piece_program t = over_pieces (task_program t)

-- How far a program has come before the first read.
abbrev pub at_first : Desk → Progress
at_first desk = record { lines = started; desk = desk }

-- The answer to a piece of a line.
abbrev pub DidTo : Task → Piece → Desk → ℕ → Lent → Lent → Lent → Done → Type 0
DidTo t x = DidBy (λ m. (piece_program t).says m x) (λ m. (piece_program t).becomes m x)
