-- `clausewords::of_area` meets its contract: the area, and the words behind it.
use Rattle.saying.proofs.Saying.{says_append}
use Rattle.clausewords.proofs.of_area.Goals as goal

pub returns : goal.returns
returns c = says_append c.text-first.ensures (says_append c.decimal-area.ensures c.text.ensures)
