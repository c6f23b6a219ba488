-- `clausewords::clause_words` meets its contract: behind what is said of two areas stands the octet that they share.
use Rattle.clausewords.proofs.Areas.{says_areas}
use Rattle.clausewords.proofs.clause_words.Goals as goal

pub returns-in-Shared : goal.returns-in-Shared
returns-in-Shared c = rw c.in-Shared.is (says_areas _ _ _ c.of_areas-words.ensures c.decimal.ensures)
