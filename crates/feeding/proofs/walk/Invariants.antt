-- `feeding::walk`: what is written so far, and then the turn of what is left, is the whole turn; and the input that is left gets less.
use Rattle.std.proofs.Common.{◌-◌, length}
use Rattle.lines.specs.Turn.{turn_of}
use Rattle.lines.proofs.Walks.{Walking}
use Rattle.feeding.specs.Feed.{piece_program}
use Rattle.feeding.proofs.walk.Given as goal

abbrev pub invariant-loop-count : goal.invariant-loop-count
invariant-loop-count l =
    Walking (piece_program l.task)
    (turn_of (piece_program l.task) (length l.initial.text) (record { desk = l.initial.d; store = l.initial.store; out = l.initial.out }) l.begins l.input)
    l.input l.initial.text l.w (record { desk = l.d; store = l.store; out = l.out }) l.text

abbrev pub decreases-loop-count : goal.decreases-loop-count
decreases-loop-count l = length l.input - l.w.from
