-- What is left of some areas at a place: a test of each of them, and of each pair.
-- Assumes nothing.
use mathlib.Core.Bool.{Bool, true, ◌&&◌}
use mathlib.Core.List.{List}
use mathlib.Core.Path.{◌≡◌}
use Prim.Native.Nat.{ℕ, ◌+◌, ◌≤◌, ◌<◌}
use native.Mathlib.Numerals.{add-one}
use lib.ListN.{length, get_or, drop, drop_of_length-le}
use lib.Seq.{drop-cons}
use Rattle.laws.specs.Each.{every}
use Rattle.map.specs.declared.Area.{Area}
use Rattle.map.specs.Made.{blank}
use Rattle.map.specs.Sound.{pair_sound, every_pair}

module _ (areas : List Area) (i : ℕ) where
  pub each_next : (test : Area → Bool) → i < length areas → every test (drop i areas) ≡ test (get_or areas i blank) && every test (drop (i + 1) areas)
  unfolding every
  each_next test h = rw (add-one, drop-cons areas i blank)

  pub each_none : (test : Area → Bool) → length areas ≤ i → every test (drop i areas) ≡ true
  unfolding every
  each_none test h = rw drop_of_length-le

  pub pairs_next :
      i < length areas
      → every_pair (drop i areas) ≡ every (pair_sound (get_or areas i blank)) (drop (i + 1) areas) && every_pair (drop (i + 1) areas)
  unfolding every_pair
  pairs_next h = rw (add-one, drop-cons areas i blank)

  pub pairs_none : length areas ≤ i → every_pair (drop i areas) ≡ true
  unfolding every_pair
  pairs_none h = rw drop_of_length-le

-- For `pairs_sound`.
pub ruleset left = (each_next, each_none, pairs_next, pairs_none)
