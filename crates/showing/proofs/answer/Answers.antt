-- `showing::answer` meets its contract: the octets written, the verdict and the counts are said in a row.
use Rattle.showing.proofs.Answering.{answer_said}
use Rattle.showing.proofs.answer.Goals as goal

pub returns : goal.returns
returns c =
    answer_said (record { session = c.args.s; store = c.args.store.now; out = c.args.out.now }) c.args.packet.now
    c.answered-outcome.ensures c.front.ensures c.line-frames.ensures c.put_verdict-verdict.ensures c.put_counts-last.ensures c.with_state-session.ensures
