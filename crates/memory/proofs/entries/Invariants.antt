-- The loop of `memory::entries`: laying the entries that are left gives what laying all of them does.
use Rattle.std.proofs.Common.{◌≡◌, ◌+◌, ◌*◌, length}
use Rattle.octets.specs.Copy.{laid}
use Rattle.blocks.specs.Blocks.{block_count, blocks_of, blocks_left}
use Rattle.requests.specs.declared.Action.TheVariants.{Check}
use Rattle.requests.specs.Request.{carried_by}
use Rattle.memory.specs.Memory.{entries_of}
use Rattle.memory.proofs.entries.Given as goal

abbrev pub invariant-loop-block : goal.invariant-loop-block
invariant-loop-block l = record {
  eight : l.octets + length (blocks_left l.block-iterator) * 8 ≡ block_count l.application * 8;
  laid_is : laid l.out (l.at + l.octets) (entries_of l.area l.store (blocks_left l.block-iterator))
      ≡ laid l.initial.out l.at (entries_of l.area l.store (blocks_of (carried_by Check) l.application));
}
