-- `clausewords::clause_line` meets its contract: the words, and the end of the line behind them.
use Rattle.saying.proofs.Saying.{says_append}
use Rattle.clausewords.specs.Clausewords.{clause_line}
use Rattle.clausewords.proofs.clause_line.Goals as goal

pub returns-in-Err : goal.returns-in-Err
unfolding clause_line
returns-in-Err c = rw c.in-Err.is (says_append c.clause_words-words.ensures c.end-in-Err.ensures)
