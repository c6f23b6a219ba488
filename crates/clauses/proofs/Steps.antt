-- A step of each walk over some areas: what is told from a place on, by what is told at it and from the next one on.
-- Assumes nothing.
use mathlib.Core.List.{List}
use mathlib.Core.Path.{◌≡◌}
use Prim.Native.Nat.{ℕ, suc, ◌+◌, ◌≤◌, ◌<◌}
use native.Mathlib.Numerals.{add-one}
use lib.ListN.{length, get_or, drop, drop_of_length-le}
use lib.Seq.{drop-cons}
use Rattle.std.specs.Prelude.{Ok}
use Rattle.map.specs.declared.Area.{Area}
use Rattle.map.specs.Made.{blank}
use Rattle.clauses.specs.Clauses.{first, own_clause, pair_clause, own_from, later_from, pairs_from}

module _ (areas : List Area) (i : ℕ) where
  pub own_next :
      (octets : ℕ)
      → i < length areas
      → own_from octets (i + 1) (drop i areas)
      ≡ first (own_clause octets (i + 1) (get_or areas i blank)) (own_from octets (i + 1 + 1) (drop (i + 1) areas))
  unfolding own_from
  own_next octets here = rw (add-one i, drop-cons areas i blank, add-one (suc i))

  pub own_none : (octets k : ℕ) → length areas ≤ i → own_from octets k (drop i areas) ≡ Ok tt
  unfolding own_from
  own_none octets k h = rw drop_of_length-le

  pub later_next :
      (k : ℕ) (a : Area)
      → i < length areas
      → later_from k a (i + 1) (drop i areas)
      ≡ first (pair_clause k a (i + 1) (get_or areas i blank)) (later_from k a (i + 1 + 1) (drop (i + 1) areas))
  unfolding later_from
  later_next k a here = rw (add-one i, drop-cons areas i blank, add-one (suc i))

  pub later_none : (k : ℕ) (a : Area) (j : ℕ) → length areas ≤ i → later_from k a j (drop i areas) ≡ Ok tt
  unfolding later_from
  later_none k a j h = rw drop_of_length-le

  pub pairs_next :
      i < length areas
      → pairs_from (i + 1) (drop i areas)
      ≡ first (later_from (i + 1) (get_or areas i blank) (i + 1 + 1) (drop (i + 1) areas)) (pairs_from (i + 1 + 1) (drop (i + 1) areas))
  unfolding pairs_from
  pairs_next here = rw (add-one i, drop-cons areas i blank, add-one (suc i))

  pub pairs_none : (k : ℕ) → length areas ≤ i → pairs_from k (drop i areas) ≡ Ok tt
  unfolding pairs_from
  pairs_none k h = rw drop_of_length-le

-- For the loops over areas.
pub ruleset steps = (own_next, own_none, later_next, later_none, pairs_next, pairs_none)
