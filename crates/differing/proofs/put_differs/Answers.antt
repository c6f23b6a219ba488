-- `differing::put_differs` meets its contract: the four parts of what is told, one behind the other.
use Rattle.saying.proofs.Saying.{says_append}
use Rattle.differing.specs.Differing.{differs_text}
use Rattle.differing.proofs.put_differs.Goals as goal

pub returns : goal.returns
unfolding differs_text
returns c =
    says_append c.number_line-first.ensures
    (says_append c.number_line-second.ensures (says_append c.put_both-third.ensures c.put_octet.ensures))
