-- `toldtext::put_entry` meets its contract: the CRC is said behind the block.
use Rattle.saying.proofs.Saying.{says_append}
use Rattle.toldtext.proofs.put_entry.Goals as goal

pub returns : goal.returns
returns c = rw c.octets_of16-crc.ensures at (says_append c.put_block-first.ensures c.put_hex.ensures)
