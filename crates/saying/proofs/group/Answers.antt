-- `saying::group` meets its contract: the space and the octets are said one behind the other.
use Rattle.saying.proofs.Saying.{says_append}
use Rattle.saying.proofs.group.Goals as goal

pub returns : goal.returns
returns c = says_append c.put-first.ensures c.octets.ensures
