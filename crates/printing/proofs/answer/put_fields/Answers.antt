-- `printing::answer::put_fields` meets its contract: two numbers and the header, one after another.
use Rattle.saying.proofs.Saying.{says_append}
use Rattle.printing.specs.Answer.{fields_text}
use Rattle.printing.proofs.answer.put_fields.Goals as goal

pub returns : goal.returns
unfolding fields_text
returns c =
    says_append c.number-apid.ensures (says_append c.number-count.ensures c.put_header.ensures)
