-- `differing::number_line` meets its contract: the word, the number and the end of the line, one behind the other.
use Rattle.saying.proofs.Saying.{says_append}
use Rattle.differing.proofs.number_line.Goals as goal

pub returns : goal.returns
returns c = says_append c.text-first.ensures (says_append c.decimal-behind.ensures c.end.ensures)
