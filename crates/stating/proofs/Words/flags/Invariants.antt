-- `stating::Words::flags`: the words that are left name, behind the flags so far, what all of them do.
use Rattle.std.proofs.Common.{◌≡◌}
use Rattle.stating.specs.Stating.{words_left, no_flags, flags_from, flags_told}
use Rattle.stating.proofs.Words.flags.Given as goal

abbrev pub invariant-loop-word : goal.invariant-loop-word
invariant-loop-word l =
    (goal.iterator-loop-word).can_next l.word-iterator
    × (goal.iterator-loop-word).is_finite l.word-iterator
    × (flags_from l.known l.unknown l.twice l.f (words_left l.word-iterator)
    ≡ flags_from l.known l.unknown l.twice no_flags (words_left l.self))
    × (flags_told l.known l.f (words_left l.word-iterator) ≡ flags_told l.known no_flags (words_left l.self))
