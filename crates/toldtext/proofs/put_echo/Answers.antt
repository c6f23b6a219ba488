-- `toldtext::put_echo` meets its contract: the sequence control is said behind the packet ID.
use Rattle.saying.proofs.Saying.{says_append}
use Rattle.toldtext.proofs.put_echo.Goals as goal

pub returns : goal.returns
returns c = rw (c.octets_of16-packet.ensures, c.octets_of16-control.ensures) at (says_append c.put_hex-first.ensures c.put_hex.ensures)
