-- `toldtext::put_block` meets its contract: the length is said behind the start.
use Rattle.saying.proofs.Saying.{says_append}
use Rattle.toldtext.proofs.put_block.Goals as goal

pub returns : goal.returns
returns c = rw c.octets_of32-octets.ensures at (says_append c.put_hex-first.ensures c.put_decimal.ensures)
