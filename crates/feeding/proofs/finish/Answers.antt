-- `feeding::finish` meets its contract: nothing is left of the input, and so nothing is said.
use Rattle.std.proofs.Common.{sym, ◌∙◌}
use Rattle.lines.proofs.Walks.{finishes_none}
use Rattle.desk.specs.Place.{place_of}
use Rattle.feeding.specs.Feed.{piece_program}
use Rattle.feeding.proofs.finish.Goals as goal

pub returns-in_default : goal.returns-in_default
returns-in_default c =
    let a = c.args in
    finishes_none (piece_program a.task) (place_of a.p.desk a.store a.out) a.p.lines.begins a.text.now _ _ c.front-rest.ensures (sym c.last.ensures ∙ c.in_default.is)
