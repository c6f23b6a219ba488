-- `clausewords::of_areas` meets its contract: the two areas, and the words behind them.
use Rattle.saying.proofs.Saying.{says_append}
use Rattle.clausewords.proofs.of_areas.Goals as goal

pub returns : goal.returns
returns c =
    says_append c.text-first.ensures
    (says_append c.decimal-one.ensures (says_append c.text-second.ensures (says_append c.decimal-other.ensures c.text.ensures)))
