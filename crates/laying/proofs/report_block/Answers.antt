-- `laying::report_block` meets its contract.
-- Assumes nothing.
use Rattle.std.proofs.Common.{◌++◌}
use Rattle.reports.specs.Source.{dump_head}
use Rattle.laying.proofs.Laying.{lays_frame}
use Rattle.laying.proofs.report_block.Goals as goal

pub returns : goal.returns
returns c =
    lays_frame _ _ _ _ _ _ _ _ c.stamp-s.ensures (λ i. dump_head c.args.memory c.args.block.start c.args.block.words ++ c.stored-part.ensures i)
    c.put_dump-octets.ensures c.advance.ensures
