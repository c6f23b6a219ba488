-- `stating::Words::lay`: the words that are left, laid from the place that is reached, make of the store what all of them do.
use Rattle.std.proofs.Common.{◌≡◌}
use Rattle.octets.specs.Copy.{laid}
use Rattle.stating.specs.Stating.{words_left, octets_stated}
use Rattle.stating.proofs.Words.lay.Given as goal

abbrev pub invariant-loop-word : goal.invariant-loop-word
invariant-loop-word l =
    (goal.iterator-loop-word).can_next l.word-iterator
    × (goal.iterator-loop-word).is_finite l.word-iterator
    × (laid l.store l.put (octets_stated (words_left l.word-iterator))
    ≡ laid l.fn.store l.to (octets_stated (words_left l.self)))
