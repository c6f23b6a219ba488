-- `explainline::put_reason` meets its contract: number, detail, both offsets and the newline are said in a row.
use Rattle.saying.proofs.Saying.{says_append}
use Rattle.explainline.specs.Line.{reason_text}
use Rattle.explainline.proofs.put_reason.Goals as goal

pub returns : goal.returns
unfolding reason_text
returns c =
    rw (c.from.ensures, c.from-2.ensures) at
    (says_append c.decimal-first.ensures
    (says_append c.put_decimal-second.ensures (says_append c.put_decimal-third.ensures (says_append c.put_decimal-fourth.ensures c.end.ensures))))
