-- `frametext::put_stamp` meets its contract: the fields are said in a row.
use Rattle.saying.proofs.Saying.{says_append}
use Rattle.frametext.specs.Text.{stamp_text}
use Rattle.frametext.proofs.put_stamp.Goals as goal

pub returns : goal.returns
unfolding stamp_text
returns c =
    rw (c.from.ensures, c.from-2.ensures, c.from-3.ensures, c.from-4.ensures) at
    (says_append c.put_decimal-first.ensures
    (says_append c.put_decimal-second.ensures
    (says_append c.put_decimal-third.ensures (says_append c.put_decimal-fourth.ensures c.put_hex.ensures))))
