-- `packline::put_refused` meets its contract: the words, the number and the end of the line, one behind the other.
use Rattle.saying.proofs.Saying.{says_append}
use Rattle.packline.proofs.put_refused.Goals as goal

pub returns : goal.returns
returns c = says_append c.text-first.ensures (says_append c.decimal-behind.ensures c.end.ensures)
