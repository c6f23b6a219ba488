-- `stating::Words::digits`: the octets so far and the words that are left state what all of them do, and the line has room for their octets.
use Rattle.std.proofs.Common.{◌≡◌, ◌+◌, ◌≤◌, length}
use Rattle.stating.specs.Stating.{words_left, digits_from, digits_told, octets_stated}
use Rattle.stating.proofs.Words.digits.Given as goal

abbrev pub invariant-loop-word : goal.invariant-loop-word
invariant-loop-word l =
    (goal.iterator-loop-word).can_next l.word-iterator
    × (goal.iterator-loop-word).is_finite l.word-iterator
    × (l.count + length (octets_stated (words_left l.word-iterator)) ≤ length l.self.line.now)
    × (digits_from l.count (words_left l.word-iterator) ≡ digits_from 0 (words_left l.self))
    × (digits_told l.count (words_left l.word-iterator) ≡ digits_told 0 (words_left l.self))
