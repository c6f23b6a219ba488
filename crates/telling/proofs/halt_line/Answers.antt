-- `telling::halt_line` meets its contract: the words, and the end of the line behind them.
use Rattle.saying.proofs.Saying.{says_append}
use Rattle.telling.specs.Telling.{halt_line}
use Rattle.telling.proofs.halt_line.Goals as goal

pub returns-in-Some : goal.returns-in-Some
unfolding halt_line
returns-in-Some c = rw c.in-Some.is (says_append c.halt_words-words.ensures c.end.ensures)
