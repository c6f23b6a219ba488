-- `differing::put_octet` meets its contract: nothing is told where no frame is due or no line is found.
use Rattle.std.proofs.Common.{◌≡◌, [], length, sym, ◌∙◌}
use borrow.Author.Tests.{eqb-true}
use Rattle.saying.proofs.Saying.{says_as, says_none}
use Rattle.differing.specs.Differing.{octet_line}
use Rattle.differing.proofs.Telling.{octet_no_frame, octet_no_line}
use Rattle.differing.proofs.put_octet.Goals as goal
use Rattle.differing.proofs.put_octet.Goals.{then-is_empty-via-then-is_empty, then-is_empty-via-else-is_empty+then-is_empty-2}

pub returns-then-is_empty : goal.returns-then-is_empty
returns-then-is_empty c =
    let due = c.args.due.now in
    let line = c.args.line.now in
    let none : [] ≡ octet_line due line =
    elim c.then-is_empty.branch [
      | then-is_empty-via-then-is_empty w ↦ octet_no_frame due line (eqb-true (length due) 0 (sym c.is_empty.ensures ∙ w.if-is_empty.true))
      | then-is_empty-via-else-is_empty+then-is_empty-2 w ↦ octet_no_line due line (eqb-true (length line) 0 (sym w.is_empty-else-is_empty.ensures ∙ w.if-is_empty-2.true))
    ] in
    says_as none (says_none c.kept.ensures)
