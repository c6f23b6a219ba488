-- `feeding::walk` meets its contract: it ends where no whole piece or no room is left, and a piece that is answered leaves less.
use Rattle.std.proofs.Common.{◌≡◌, true, ℕ, ◌<◌, leb, refl, sym, ◌∙◌, arith}
use borrow.Author.Tests.{leb-true}
use Rattle.lines.proofs.Walks.{walking_more, walking_full, walking_less, walking_next}
use Rattle.hexline.specs.Whole.{answer_room}
use Rattle.desk.proofs.Doing.{did_after}
use Rattle.feeding.specs.Feed.{piece_program}
use Rattle.feeding.proofs.Streaming.{pieces_task}
use Rattle.feeding.proofs.walk.Goals as goal

-- Less room than an answer of the most characters takes.
short : (left most : ℕ) → left < most → leb most answer_room ≡ true → left < answer_room
short left most h e = omega (arith, h, leb-true most answer_room e)

pub returns-in_default : goal.returns-in_default
returns-in_default c =
    walking_more (piece_program c.args.task) (pieces_task c.args.task) c.loop-count.invariant (sym c.next.ensures ∙ c.in_default.is)

pub returns-then-text-at-lt-ANSWER_ROOM : goal.returns-then-text-at-lt-ANSWER_ROOM
returns-then-text-at-lt-ANSWER_ROOM c =
    walking_full (piece_program c.args.task) (pieces_task c.args.task) c.loop-count.invariant (sym c.next.ensures ∙ c.in-Some.is) (short _ _ c.if-text-at-lt-ANSWER_ROOM.true refl)

pub loop-count-smaller : goal.loop-count-smaller
loop-count-smaller c =
    walking_less (piece_program c.args.task) (pieces_task c.args.task) c.loop-count.invariant (sym c.next.ensures ∙ c.in-Some.is)
    c.answer_piece-done.result.at c.passed-w.result c.passed-w.ensures

pub loop-count-preserved : goal.loop-count-preserved
loop-count-preserved c =
    let e = c.answer_piece-done.ensures in
    walking_next (piece_program c.args.task) (pieces_task c.args.task) c.loop-count.invariant (sym c.next.ensures ∙ c.in-Some.is)
    _ _ c.answer_piece-done.result.at _ c.passed-w.result c.if-text-at-lt-ANSWER_ROOM.false c.piece-piece.ensures
    (did_after e) e.says.at_is e.says.text_is c.passed-w.ensures
