-- `replies::serve` meets its contract: what is done with the octets decoded from a line's digits is what the line asks.
use Rattle.std.proofs.Common.{arith}
use Rattle.replies.proofs.Serving.{line_served}
use Rattle.replies.proofs.serve.Goals as goal

pub returns-clause-served_by : goal.returns-clause-served_by
returns-clause-served_by c =
    line_served c.args.line.now c.args.octets.now (record { session = c.args.s; store = c.args.store.now; out = c.args.out.now }) (omega arith)
    c.digits-digits.ensures c.decode.ensures c.front-given.ensures c.asked.ensures c.act.ensures
