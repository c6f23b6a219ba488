-- A walk over the first `count` of some areas, place by place: what is left of them at a place.
use mathlib.Core.List.{List, [], ◌∷◌}
use mathlib.Core.Path.{◌≡◌, sym, ◌∙◌}
use Prim.Native.Nat.{ℕ, ◌+◌, ◌≤◌, ◌<◌, min}
use native.Mathlib.Numerals.{add-one}
use native.Mathlib.Omega.{arith, min_cases}
use lib.ListN.{length, get_or, take, drop, length-take, drop_of_length-le}
use lib.Seq.{drop-cons, get_or-take, take_all}
use Rattle.map.specs.declared.Area.{Area}
use Rattle.map.specs.declared.Profile.{Profile}
use Rattle.map.specs.Made.{blank}
use Rattle.map.specs.Place.{areas_most, used}

module _ (areas : List Area) (count i : ℕ) where
  pub left_next : count ≤ length areas → i < count → drop i (take count areas) ≡ get_or areas i blank ∷ drop (i + 1) (take count areas)
  left_next fits h = rw (add-one, drop-cons (take count areas) i blank (rw length-take (omega arith)), get_or-take count areas i blank)

  -- Eight places hold as many areas as a count allows.
  pub left_eight : length areas ≡ areas_most → count ≤ areas_most → i < count → drop i (take count areas) ≡ get_or areas i blank ∷ drop (i + 1) (take count areas)
  left_eight e fits h = left_next (omega arith) h

  pub left_none : count ≤ i → drop i (take count areas) ≡ []
  left_none h = drop_of_length-le (take count areas) {i = i} (rw length-take (omega arith))

-- A count above eight uses all eight places.
pub used_are : (p : Profile) (n : ℕ) → length p.areas ≡ areas_most → n ≡ min p.count areas_most → take n p.areas ≡ used p
used_are p n e h =
    rw h
    (min_cases p.count areas_most (take (min p.count areas_most) p.areas ≡ used p)
    (λ _ k. rw k)
    (λ l k. rw k (take_all areas_most p.areas (omega arith) ∙ sym (take_all p.count p.areas (omega arith)))))
