-- `beside::parting` meets its contract: what is left of the two parts where the two whole ones do.
use Rattle.std.proofs.Common.{◌≡◌, drop}
use Rattle.characters.specs.Digits.{octets_in}
use Rattle.beside.specs.Beside.{parting_of, parting_from}
use Rattle.beside.proofs.parting.Given as goal

abbrev pub invariant-loop-k : goal.invariant-loop-k
invariant-loop-k l = parting_from l.k (drop l.k l.due) (drop l.k (octets_in l.line)) ≡ parting_of l.due (octets_in l.line)
