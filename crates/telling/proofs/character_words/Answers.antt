-- `telling::character_words` meets its contract: the place and the octet, each behind its words.
use Rattle.saying.proofs.Saying.{says_append}
use Rattle.telling.proofs.character_words.Goals as goal

pub returns : goal.returns
returns c = says_append c.text-first.ensures (says_append c.decimal-digits.ensures (says_append c.text-second.ensures c.octets.ensures))
