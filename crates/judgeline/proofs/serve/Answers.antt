-- `judgeline::serve` meets its contract: the terminal's answer, the group that it opens and the counts that it leaves make up what is served.
use Rattle.desk.specs.Place.{place_of}
use Rattle.judgeline.proofs.Lines.{served_place}
use Rattle.judgeline.proofs.serve.Goals as goal

pub returns : goal.returns
returns c =
    served_place (place_of c.args.d c.args.store c.args.out) c.args.line.now c.open-group.result c.with_group.result c.with_state.result
    c.serve-outcome.ensures c.open-group.ensures c.with_group.ensures c.with_state.ensures
