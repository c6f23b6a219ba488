-- `lines::newline_in` meets its contract: a newline is the first where none stands before it.
use Rattle.std.proofs.Common.{arith}
use Rattle.std.proofs.lemmas.Iterator.Adapters.{position_from-zero}
use Rattle.lines.proofs.Newlines.{newline_here, newline_later, newline_never}
use Rattle.lines.proofs.newline_in.Goals as goal

pub loop-place-init : goal.loop-place-init
loop-place-init c = position_from-zero _ c.args.characters.now

pub returns-then-c-eq-NEWLINE : goal.returns-then-c-eq-NEWLINE
returns-then-c-eq-NEWLINE c =
    newline_here c.args.characters.now c.loop-place.place c.loop-place.invariant c.loop-place-test.true c.if-c-eq-NEWLINE.true

pub loop-place-preserved : goal.loop-place-preserved
loop-place-preserved c =
    newline_later c.args.characters.now c.loop-place.place c.loop-place.invariant c.loop-place-test.true c.if-c-eq-NEWLINE.false

pub returns : goal.returns
returns c = newline_never c.args.characters.now c.loop-place.place c.loop-place.invariant (omega arith)
