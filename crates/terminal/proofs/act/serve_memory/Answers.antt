-- `terminal::act::serve_memory` meets its contract: in each arm the action is the arm's own.
-- Assumes nothing.
use Rattle.std.proofs.Common.{rules, ◌≡◌, refl, length}
use Rattle.blocks.proofs.WellFormed.{head_facts}
use Rattle.requests.specs.declared.Action.TheVariants.{Check}
use Rattle.serving.specs.Services.{Formed}
use Rattle.terminal.proofs.Steps.{did_none}
use Rattle.terminal.proofs.Reporting.{did_check}
use Rattle.terminal.proofs.act.serve_memory.Goals as goal

pub returns-in-Load : goal.returns-in-Load
returns-in-Load c = rw c.in-Load.is (record { did = did_none _ _ _ _; store_is = c.load.ensures })

pub returns-in-Check : goal.returns-in-Check
returns-in-Check c =
    let s = c.args in
    let six : length s.sender.time ≡ 6 = search rules in
    let formed : Formed Check s.application.now = rw c.in-Check.is at c.requires.1 in
    let few = (head_facts s.application.now formed.0).few in
    rw c.in-Check.is
    (record { did = did_check _ six _ _ _ _ s.job.area s.application.now s.store.now few c.requires.0 c.report_check.ensures; store_is = refl })
