-- `each`: what is told of all is what is told of those that are left.
use Rattle.std.proofs.Common.{◌≡◌, ◌+◌, drop}
use Rattle.clauses.specs.Clauses.{own_from}
use Rattle.clauses.proofs.each.Given as goal

abbrev pub invariant-loop-i : goal.invariant-loop-i
invariant-loop-i l = own_from l.octets 1 l.areas ≡ own_from l.octets (l.i + 1) (drop l.i l.areas)
