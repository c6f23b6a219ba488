-- `terminal::act::carry_out` meets its contract: three steps, one after another.
-- Assumes nothing.
use Rattle.std.proofs.Common.{rules, arith, ◌≡◌, ℕ, List, length, sym, subst}
use Rattle.serving.specs.Services.{FormedFor}
use Rattle.terminal.specs.Outcome.{reports_for}
use Rattle.terminal.specs.Done.{done}
use Rattle.laying.specs.Reports.{echo, asked, asks_acceptance, asks_completion}
use Rattle.terminal.specs.Act.{echo_size, Did, Serves}
use Rattle.terminal.proofs.Steps.{did_then}
use Rattle.terminal.proofs.Reporting.{did_echo}
use Rattle.terminal.proofs.act.carry_out.Goals as goal

pub serve-next-requires : goal.serve-next-requires
serve-next-requires c =
    let a = c.args in
    let six : length a.sender.time ≡ 6 = search rules in
    let accepts : Did echo_size a.sender a.p c.report_echo-first.result a.out.now c.report_echo-first.new.out (asked (asks_acceptance a.work.ack) (echo 1 a.packet.now)) =
    did_echo _ six _ _ _ _ (asks_acceptance a.work.ack) 1 a.packet.now c.requires.1.0 (omega (arith, c.requires.0)) c.report_echo-first.ensures in
    (omega (arith, accepts.bounded, c.requires.0), subst (λ (d : List ℕ). FormedFor a.work.task d) (sym c.placed-application.ensures) c.requires.1.1)

pub returns : goal.returns
unfolding reports_for
returns c =
    let a = c.args in
    let six : length a.sender.time ≡ 6 = search rules in
    let accepts : Did echo_size a.sender a.p c.report_echo-first.result a.out.now c.report_echo-first.new.out (asked (asks_acceptance a.work.ack) (echo 1 a.packet.now)) =
    did_echo _ six _ _ _ _ (asks_acceptance a.work.ack) 1 a.packet.now c.requires.1.0 (omega (arith, c.requires.0)) c.report_echo-first.ensures in
    let served =
    subst (λ (d : List ℕ). Serves a.sender c.report_echo-first.result c.serve-next.result c.report_echo-first.new.out c.serve-next.new.out (done a.work.task d a.store.now) c.serve-next.new.store)
    c.placed-application.ensures c.serve-next.ensures in
    let completes = did_echo _ six _ _ _ _ (asks_completion a.work.ack) 7 a.packet.now c.requires.1.0 (omega (arith, served.did.bounded, accepts.bounded, c.requires.0)) c.report_echo.ensures in
    record {
      did = did_then _ _ _ _ _ _ _ _ _ _ _ accepts (did_then _ _ _ _ _ _ _ _ _ _ _ served.did completes);
      store_is = served.store_is;
    }
