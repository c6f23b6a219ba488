-- `telling::unit_line` meets its contract: the number of the line, what is wrong with it, and the end of the line, one behind the other.
use Rattle.saying.proofs.Saying.{says_append}
use Rattle.telling.specs.Telling.{unit_line}
use Rattle.telling.proofs.unit_line.Goals as goal

pub returns-in-Some : goal.returns-in-Some
unfolding unit_line
returns-in-Some c =
    rw c.in-Some.is
    (says_append c.text-first.ensures
    (says_append c.decimal-digits.ensures (says_append c.text-colon.ensures (says_append (rw c.fault_words.ensures at c.text-words.ensures) c.end.ensures))))

pub returns-in-None : goal.returns-in-None
returns-in-None c =
    rw c.in-None.is
    (says_append c.text-first.ensures (says_append c.decimal-digits.ensures (says_append c.text-colon.ensures c.end-in-None.ensures)))
