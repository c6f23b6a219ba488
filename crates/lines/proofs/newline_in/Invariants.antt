-- `lines::newline_in`: the first newline is the first of the characters that are left.
use Rattle.lines.proofs.Newlines.{Ahead}
use Rattle.lines.proofs.newline_in.Given as goal

abbrev pub invariant-loop-place : goal.invariant-loop-place
invariant-loop-place l = Ahead l.characters l.place
