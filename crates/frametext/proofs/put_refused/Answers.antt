-- `frametext::put_refused` meets its contract: the newline is said behind the number.
use Rattle.saying.proofs.Saying.{says_append}
use Rattle.frametext.proofs.put_refused.Goals as goal

pub returns : goal.returns
returns c = rw (c.from.ensures, c.number.ensures) at (says_append c.put_decimal-first.ensures c.end.ensures)
