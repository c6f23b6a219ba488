-- `blocks::reading::block_behind`: the block is the one behind as many others as were passed.
use Rattle.std.proofs.Common.{◌≡◌}
use Rattle.blocks.specs.Blocks.{block_behind}
use Rattle.blocks.proofs.reading.block_behind.Given as goal

abbrev pub invariant-loop : goal.invariant-loop
invariant-loop l = l.block ≡ block_behind l.carried l.application l.counter
