-- `grouping::due` meets its contract: what is left is the frames' end, and its first frame is cut off by its end as by its length.
use Rattle.std.proofs.Common.{List, ℕ, take, ap, ◌∙◌}
use Rattle.tm.specs.Frame.{frame_size}
use Rattle.grouping.specs.Group.{frame_room}
use Rattle.grouping.proofs.Left.{left_all, due_whole}
use Rattle.grouping.proofs.due.Goals as goal

pub returns : goal.returns
returns c =
    let left = left_all c.args.g c.args.out.now _ _ c.front-frames.ensures c.piece-left.ensures in
    c.front.ensures
    ∙ ap (λ (s : List ℕ). take frame_room s) (due_whole _ _ _ c.frame_end.ensures c.front-frame.ensures)
    ∙ ap (λ (s : List ℕ). take frame_room (take (frame_size s) s)) left
