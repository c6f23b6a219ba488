-- `printing::answer::put_counts` meets its contract: three numbers and the end of the line, one after another.
use Rattle.saying.proofs.Saying.{says_append}
use Rattle.printing.specs.Answer.{counts_text}
use Rattle.printing.proofs.answer.put_counts.Goals as goal

pub returns : goal.returns
unfolding counts_text
returns c =
    says_append c.number-count.ensures (says_append c.number-reports.ensures (says_append c.number-services.ensures c.end.ensures))
