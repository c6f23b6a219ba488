-- The loop of `memory::load`: writing the blocks that are left into the store as it is gives what writing all of them into the store as it was does.
use Rattle.std.proofs.Common.{◌≡◌}
use Rattle.blocks.specs.Blocks.{blocks_of, blocks_left}
use Rattle.requests.specs.declared.Action.TheVariants.{Load}
use Rattle.requests.specs.Request.{carried_by}
use Rattle.memory.specs.Memory.{loaded}
use Rattle.memory.proofs.load.Given as goal

abbrev pub invariant-loop-block : goal.invariant-loop-block
invariant-loop-block l =
    loaded l.area l.application (blocks_left l.block-iterator) l.store
    ≡ loaded l.area l.application (blocks_of (carried_by Load) l.application) l.initial.store
