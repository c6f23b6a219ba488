-- `blocks::shape::form`: the first block at fault, and the end of the last one, are those of the blocks that are left.
use Rattle.std.proofs.Common.{length}
use Rattle.blocks.specs.Blocks.{block_count}
use Rattle.blocks.specs.Form.{block_right}
use Rattle.blocks.proofs.Walk.{Passed, Ends}
use Rattle.blocks.proofs.shape.form.Given as goal

abbrev pub invariant-loop-others : goal.invariant-loop-others
invariant-loop-others l =
    Passed l.carried l.application (block_count l.application) (block_right l.most (length l.application)) l.others l.place
    × Ends l.carried l.application (block_count l.application) l.others l.place
