-- `map::octets_in` meets its contract.
use Rattle.std.proofs.Common.{refl}
use Rattle.map.specs.Place.{word_octets, octets_of}
use Rattle.map.proofs.octets_in.Goals as goal

pub returns : goal.returns
unfolding octets_of word_octets
returns c = refl
