-- `printing::answer::put_header` meets its contract: five groups, one after another.
use Rattle.saying.proofs.Saying.{says_append}
use Rattle.printing.specs.Answer.{header_text}
use Rattle.printing.proofs.answer.put_header.Goals as goal

pub returns : goal.returns
unfolding header_text
returns c =
    says_append c.group-checksum.ensures
    (says_append c.group-ack.ensures (says_append c.group-kind.ensures (says_append c.group-subtype.ensures c.group.ensures)))
