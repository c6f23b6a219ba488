-- `terminal::act::dump` meets its contract: the reports laid are those of the blocks.
-- Assumes nothing.
use Rattle.std.proofs.Common.{rules, arith, ◌≡◌, ◌≤◌, [], ◌∷◌, ◌∙◌, append_assoc, length}
use Rattle.terminal.specs.Act.{service_most}
use Rattle.terminal.proofs.Steps.{did_none}
use Rattle.terminal.proofs.Reporting.{did_block}
use Rattle.terminal.proofs.Walks.{next_fits, dumping_next, dumping_last}
use Rattle.terminal.proofs.act.dump.Goals as goal

pub loop-block-init : goal.loop-block-init
loop-block-init c = record { whole = search rules; did = did_none _ 0 _ _ }

pub loop-block-preserved : goal.loop-block-preserved
loop-block-preserved c =
    let l = c.loop-block in
    let b = c.in-Some.block in
    let six : length c.args.sender.time ≡ 6 = search rules in
    let whole = rw c.in-Some.ensures.steps at l.invariant.whole in
    let fits = next_fits c.args.application.now c.requires.1 l.yielded _ b whole in
    let early : l.q.at ≤ service_most = omega (arith, l.invariant.did.bounded, c.requires.0) in
    let step = did_block c.args.sender six _ _ _ _ c.args.area _ c.args.store.now b fits.0 early
    (rw c.memory_id-memory.ensures at c.report_block-q.ensures) in
    record {
      whole = append_assoc l.yielded (b ∷ []) _ ∙ whole;
      did = dumping_next _ _ _ _ _ _ _ _ _ _ l.invariant.did step;
    }

pub returns : goal.returns
returns c =
    let l = c.loop-block in
    dumping_last _ _ _ _ _ _ _ _ c.args.application.now c.requires.1 l.invariant.whole c.in-None.ensures.steps.0 l.invariant.did
