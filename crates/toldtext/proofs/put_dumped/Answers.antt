-- `toldtext::put_dumped` meets its contract: the memory, the block and the words are said in a row.
use Rattle.saying.proofs.Saying.{says_append}
use Rattle.toldtext.proofs.put_dumped.Goals as goal

pub returns : goal.returns
returns c = rw c.placed.ensures at (says_append c.put_decimal-first.ensures (says_append c.put_block-second.ensures c.put_hex.ensures))
