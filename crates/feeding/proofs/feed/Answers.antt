-- `feeding::feed` meets its contract: the walk over the front of the input, and what is left of it moved there.
use Rattle.std.proofs.Common.{List, ℕ, length}
use Rattle.lines.specs.Turn.{turn_of}
use Rattle.lines.proofs.Walks.{feeds}
use Rattle.desk.specs.Place.{place_of}
use Rattle.feeding.specs.Feed.{piece_program}
use Rattle.feeding.proofs.feed.Goals as goal

pub returns : goal.returns
returns c =
    let a = c.args in
    feeds (λ (s : List ℕ). turn_of (piece_program a.task) (length a.text.now) (place_of a.p.desk a.store a.out) a.p.lines.begins s) a.input.now a.text.now a.p.lines.have
    _ c.walk-walked.result.walk _ _ _ c.carry-left.result c.front-front.ensures c.walk-walked.ensures c.carry-left.ensures.value c.carry-left.ensures.buffer_after
