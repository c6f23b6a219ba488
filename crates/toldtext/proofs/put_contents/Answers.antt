-- `toldtext::put_contents` meets its contract: of a frame that connects no text is added.
use Rattle.saying.proofs.Saying.{says_none}
use Rattle.toldtext.proofs.put_contents.Goals as goal

pub returns-in-Connects : goal.returns-in-Connects
returns-in-Connects c = rw c.in-Connects.is (says_none c.kept.ensures)
