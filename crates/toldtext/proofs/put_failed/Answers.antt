-- `toldtext::put_failed` meets its contract: code and detail are said behind the TC's.
use Rattle.saying.proofs.Saying.{says_append}
use Rattle.toldtext.proofs.put_failed.Goals as goal

pub returns : goal.returns
returns c = says_append c.put_echo-first.ensures (says_append c.put_decimal-second.ensures c.put_decimal.ensures)
