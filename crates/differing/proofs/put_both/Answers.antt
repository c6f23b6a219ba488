-- `differing::put_both` meets its contract: what was due on its line, and what was found on its line.
use Rattle.saying.proofs.Saying.{says_append}
use Rattle.differing.proofs.put_both.Goals as goal

pub returns : goal.returns
returns c =
    says_append (says_append c.text-due_word.ensures (says_append c.put_due-due_end.ensures c.end-found.ensures))
    (says_append c.text-found_word.ensures (says_append c.put_found-found_end.ensures c.end.ensures))
