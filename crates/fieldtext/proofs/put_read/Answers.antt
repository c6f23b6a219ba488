-- `fieldtext::put_read` meets its contract: the verdict, the fields and the source data of what the reader returns are said in a row.
use Rattle.saying.proofs.Saying.{says_append}
use Rattle.fieldtext.specs.Fields.{read_text}
use Rattle.fieldtext.proofs.put_read.Goals as goal

pub returns : goal.returns
unfolding read_text
returns c =
    rw (c.placed.ensures, c.code_of.ensures, c.read-reading.ensures) at
    (says_append c.octets-first.ensures (says_append c.put_fields-second.ensures c.last.ensures))
