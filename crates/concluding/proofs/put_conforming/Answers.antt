-- `concluding::put_conforming` meets its contract: its parts are said one behind the other.
use Rattle.saying.proofs.Saying.{says_append}
use Rattle.concluding.proofs.put_conforming.Goals as goal

pub returns : goal.returns
returns c = says_append c.text-first.ensures (says_append c.decimal-second.ensures (says_append c.text-third.ensures (says_append c.decimal-last.ensures c.end.ensures)))
