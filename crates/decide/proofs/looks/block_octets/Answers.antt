-- `decide::looks::block_octets` meets its contract: the block begins in the packet.
use Rattle.std.proofs.Common.{◌+◌, ap, arith}
use Rattle.blocks.specs.declared.Block.{Block}
use Rattle.blocks.specs.Blocks.{header_size}
use Rattle.tc.specs.Layout.{head_size}
use Rattle.decide.specs.Octets.{octets_at, block_octets}
use Rattle.decide.proofs.Numbered.{numbered_at}
use Rattle.decide.proofs.looks.block_octets.Goals as goal

pub overflow_add-from : goal.overflow_add-from
overflow_add-from c = omega (arith, ap (λ (b : Block). b.at) c.block_numbered-block.ensures, numbered_at c.args.packet.now c.args.detail)

pub overflow_add-result : goal.overflow_add-result
overflow_add-result c = omega (arith, ap (λ (b : Block). b.at) c.block_numbered-block.ensures, numbered_at c.args.packet.now c.args.detail)

pub returns : goal.returns
unfolding block_octets
returns c = ap (λ (b : Block). octets_at (head_size + b.at) header_size) c.block_numbered-block.ensures
