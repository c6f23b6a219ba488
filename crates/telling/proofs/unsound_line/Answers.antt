-- `telling::unsound_line` meets its contract: the words, and the end of the line behind them.
use Rattle.saying.proofs.Saying.{says_append}
use Rattle.telling.proofs.unsound_line.Goals as goal

pub returns : goal.returns
returns c = says_append c.text-words.ensures c.end.ensures
