-- `judgeline::refused` meets its contract: `refused 70` with the number, and why, are said one behind the other.
use Rattle.saying.proofs.Saying.{says_append}
use Rattle.judgeline.proofs.refused.Goals as goal

pub returns : goal.returns
returns c = record { says_by = says_append c.put_refused-first.ensures c.halt_line-behind.ensures; desk_value = c.halting.ensures }
