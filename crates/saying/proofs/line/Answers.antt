-- `saying::line` meets its contract: the octets and the newline are said one behind the other.
use Rattle.saying.proofs.Saying.{says_append}
use Rattle.saying.proofs.line.Goals as goal

pub returns : goal.returns
returns c = says_append c.octets-first.ensures c.end.ensures
