-- `toldtext::put_decimal` meets its contract: the number is said behind the word.
use Rattle.saying.proofs.Saying.{says_append}
use Rattle.toldtext.proofs.put_decimal.Goals as goal

pub returns : goal.returns
returns c = says_append c.text-first.ensures c.decimal.ensures
