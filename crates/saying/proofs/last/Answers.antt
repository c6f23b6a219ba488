-- `saying::last` meets its contract: the space and the line are said one behind the other.
use Rattle.saying.proofs.Saying.{says_append}
use Rattle.saying.proofs.last.Goals as goal

pub returns : goal.returns
returns c = says_append c.put-first.ensures c.line.ensures
