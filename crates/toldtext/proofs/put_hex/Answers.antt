-- `toldtext::put_hex` meets its contract: the octets are said behind the word.
use Rattle.saying.proofs.Saying.{says_append}
use Rattle.toldtext.proofs.put_hex.Goals as goal

pub returns : goal.returns
returns c = says_append c.text-first.ensures c.octets.ensures
