-- `map::place::stored` meets its contract.
use Rattle.std.proofs.Common.{ℕ, ◌+◌, ap₂, ◌∙◌, arith}
use Rattle.octets.specs.Copy.{between}
use Rattle.map.specs.Place.{stored_at}
use Rattle.map.proofs.Octets.{octets_fit}
use Rattle.map.proofs.place.stored.Goals as goal

pub overflow_add-from : goal.overflow_add-from
overflow_add-from c = omega (arith, octets_fit c.args.area c.args.start c.args.words (omega arith) (omega arith) (omega arith))

pub returns : goal.returns
unfolding stored_at
returns c =
    c.part.ensures
    ∙ ap₂ (λ (from octets : ℕ). between from (from + octets) c.args.store.now) c.octet_at-from.ensures c.octets_of-octets.ensures
