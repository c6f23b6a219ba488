-- `map::place::word_octets` meets its contract.
use Rattle.std.proofs.Common.{refl}
use Rattle.map.specs.Place.{word_octets}
use Rattle.map.proofs.place.word_octets.Goals as goal

pub returns : goal.returns
unfolding word_octets
returns c = refl
