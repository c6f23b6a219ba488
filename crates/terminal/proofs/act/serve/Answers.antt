-- `terminal::act::serve` meets its contract: in each arm the task is the arm's own.
-- Assumes nothing.
use Rattle.std.proofs.Common.{rules, ◌≡◌, refl, length}
use Rattle.terminal.proofs.Steps.{did_none}
use Rattle.terminal.proofs.Reporting.{did_connection}
use Rattle.terminal.proofs.act.serve.Goals as goal

pub returns-in-Idle : goal.returns-in-Idle
returns-in-Idle c = rw c.in-Idle.is (record { did = did_none _ _ _ _; store_is = refl })

pub returns-in-Connection : goal.returns-in-Connection
returns-in-Connection c =
    let six : length c.args.sender.time ≡ 6 = search rules in
    rw c.in-Connection.is (record { did = did_connection _ six _ _ _ _ c.requires.0 c.report_connection.ensures; store_is = refl })
