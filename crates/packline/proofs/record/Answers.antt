-- `packline::record` meets its contract: the line, the end of it, and the frames that the terminal answers.
use Rattle.packline.proofs.Records.{record_said}
use Rattle.packline.proofs.record.Goals as goal

pub returns : goal.returns
returns c =
    let a = c.args in
    record_said a.profile (record { machine = record { state = a.state; store = a.store.now }; out = a.out.now }) a.line.now
    c.upper-behind.ensures c.end-first.ensures c.serve-outcome.ensures c.close-end.ensures
