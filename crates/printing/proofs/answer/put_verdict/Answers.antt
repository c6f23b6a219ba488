-- `printing::answer::put_verdict` meets its contract: a code and the detail behind it.
use Rattle.std.proofs.Common.{◌≡◌, rules}
use Rattle.saying.proofs.Saying.{says_append}
use Rattle.printing.specs.Answer.{refused_number, verdict_text}
use Rattle.printing.proofs.answer.put_verdict.Goals as goal

pub returns : goal.returns
unfolding verdict_text
returns c =
    let refused : c.map-refused.result ≡ refused_number c.args.v = search rules in
    rw (refused, c.detail.ensures) at (says_append c.put_code-first.ensures c.number.ensures)
