-- `showing::read` meets its contract: the verdict, the fields and the data of what the reader returns are said in a row.
use Rattle.saying.proofs.Saying.{says_append}
use Rattle.showing.specs.Shows.{read_text}
use Rattle.showing.proofs.read.Goals as goal

pub returns : goal.returns
unfolding read_text
returns c =
    rw (c.placed.ensures, c.read-reading.ensures) at (says_append c.put_verdict-verdict.ensures (says_append c.put_fields-fields.ensures c.last.ensures))
