-- `laying::report_refusal` meets its contract.
-- Assumes nothing.
use Rattle.std.proofs.Common.{◌++◌}
use Rattle.reports.specs.Source.{failure}
use Rattle.laying.proofs.Laying.{lays_frame}
use Rattle.laying.proofs.report_refusal.Goals as goal

pub returns : goal.returns
returns c =
    lays_frame _ _ _ _ _ _ _ _ c.stamp-s.ensures (λ i. c.echo_of.ensures i ++ failure (c.number.ensures i) (c.detail.ensures i))
    c.put_failure-size.ensures c.advance.ensures
