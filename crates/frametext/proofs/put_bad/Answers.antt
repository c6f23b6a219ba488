-- `frametext::put_bad` meets its contract: the newline is said behind the words.
use Rattle.saying.proofs.Saying.{says_append}
use Rattle.frametext.proofs.put_bad.Goals as goal

pub returns : goal.returns
returns c = says_append c.text-first.ensures c.end.ensures
