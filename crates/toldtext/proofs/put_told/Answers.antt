-- `toldtext::put_told` meets its contract: of a frame that tells nothing no text is added.
use Rattle.saying.proofs.Saying.{says_none}
use Rattle.toldtext.proofs.put_told.Goals as goal

pub returns-in-None : goal.returns-in-None
returns-in-None c = rw c.in-None.is (says_none c.kept.ensures)
