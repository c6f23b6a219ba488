-- `differing::put_timed` meets its contract: the frame before its time, the line's time, and the frame behind it, one behind the other.
use Rattle.std.proofs.Common.{length, drop, ap, ◌∙◌, arith, length-drop, take_all}
use Rattle.characters.specs.Digits.{text_of, upper_text}
use Rattle.saying.proofs.Saying.{says_as, says_append}
use Rattle.differing.proofs.put_timed.Goals as goal

pub returns : goal.returns
returns c =
    let due = c.args.due.now in
    says_append (says_as (ap text_of c.front.ensures) c.octets-first.ensures)
    (says_append (says_as (ap upper_text c.piece-time.ensures) c.upper-behind.ensures)
    (says_as (ap text_of (c.piece.ensures ∙ take_all (length due) (drop 12 due) (omega (arith, length-drop 12 due)))) c.octets.ensures))
