-- `decide::looks::block_numbered` meets its contract.
use Rattle.decide.proofs.Numbered.{numbered}
use Rattle.decide.proofs.looks.block_numbered.Goals as goal

pub returns : goal.returns
returns c =
    numbered c.args.packet.now c.args.number c.fields-head.result c.asked_for-asked.result c.carried_for.result c.before-2.result
    c.fields-head.ensures c.asked_for-asked.ensures c.placed-application.ensures c.data_span.ensures c.carried_for.ensures c.before-2.ensures
    c.block_behind.ensures
