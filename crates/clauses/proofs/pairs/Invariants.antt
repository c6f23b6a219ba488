-- `pairs`: what is told of all is what is told from a place on, and of an area with all later ones what is told with those that are left.
use Rattle.std.proofs.Common.{◌≡◌, ◌+◌, drop}
use Rattle.clauses.specs.Clauses.{later_from, pairs_from}
use Rattle.clauses.proofs.pairs.Given as goal

abbrev pub invariant-loop-j : goal.invariant-loop-j
invariant-loop-j l = later_from (l.i + 1) l.area (l.i + 1 + 1) (drop (l.i + 1) l.areas) ≡ later_from (l.i + 1) l.area (l.j + 1) (drop l.j l.areas)

abbrev pub invariant-loop-i : goal.invariant-loop-i
invariant-loop-i l = pairs_from 1 l.areas ≡ pairs_from (l.i + 1) (drop l.i l.areas)
