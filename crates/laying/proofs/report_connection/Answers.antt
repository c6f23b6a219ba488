-- `laying::report_connection` meets its contract.
-- Assumes nothing.
use Rattle.std.proofs.Common.{refl}
use Rattle.laying.proofs.Laying.{lays_frame}
use Rattle.laying.proofs.report_connection.Goals as goal

pub returns : goal.returns
returns c = lays_frame _ _ _ _ _ _ _ _ c.stamp-s.ensures refl c.put_frame-octets.ensures c.advance.ensures
