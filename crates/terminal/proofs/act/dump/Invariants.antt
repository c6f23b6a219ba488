-- The loop of `terminal::act::dump`: the reports laid are those of the blocks that were passed.
use Rattle.std.proofs.Common.{◌≡◌, ◌*◌, ◌++◌, map, length}
use Rattle.blocks.specs.Blocks.{memory_id, blocks_of, blocks_left}
use Rattle.requests.specs.declared.Action.TheVariants.{Dump}
use Rattle.requests.specs.Request.{carried_by}
use Rattle.laying.specs.Reports.{dumped}
use Rattle.terminal.specs.Act.{dump_most, Did}
use Rattle.terminal.proofs.act.dump.Given as goal

abbrev pub invariant-loop-block : goal.invariant-loop-block
invariant-loop-block l = record {
  whole : l.yielded ++ blocks_left l.block-iterator ≡ blocks_of (carried_by Dump) l.application;
  did : Did (dump_most * length l.yielded) l.sender l.initial.q l.q l.initial.out l.out (map (dumped l.area (memory_id l.application) l.store) l.yielded);
}
