-- `laying::report_echo` meets its contract.
-- Assumes nothing.
use Rattle.std.proofs.Common.{◌<◌, rules}
use Rattle.reports.specs.Source.{echoed}
use Rattle.laying.specs.Reports.{echo}
use Rattle.laying.proofs.Laying.{not_asked, is_asked, lays_frame}
use Rattle.laying.proofs.report_echo.Goals as goal

pub returns-then-not-asks : goal.returns-then-not-asks
returns-then-not-asks c =
    let small : c.args.p.at < 65536 = search rules in
    not_asked _ _ _ c.args.asks (echo c.args.subtype (echoed c.args.packet.now)) c.if-not-asks.true small

pub returns : goal.returns
returns c =
    is_asked _ _ _ _ _ c.args.asks (echo c.args.subtype (echoed c.args.packet.now)) c.if-not-asks.false
    (lays_frame _ _ _ _ _ _ _ _ c.stamp-s.ensures c.echo_of.ensures c.put_echo-octets.ensures c.advance.ensures)
