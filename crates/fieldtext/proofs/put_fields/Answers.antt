-- `fieldtext::put_fields` meets its contract: the fields are said in a row.
use Rattle.saying.proofs.Saying.{says_append}
use Rattle.fieldtext.specs.Fields.{fields_text}
use Rattle.fieldtext.proofs.put_fields.Goals as goal

pub returns : goal.returns
unfolding fields_text
returns c =
    rw c.apid_in.ensures at
    (says_append c.number-first.ensures (says_append c.number-second.ensures
    (says_append c.group-third.ensures (says_append c.group-fourth.ensures c.group.ensures))))
