-- What `any` says of the areas that cover one is what `covered` says.
-- Assumes nothing.
use mathlib.Core.Bool.{◌||◌}
use mathlib.Core.List.{List}
use mathlib.Core.Path.{◌≡◌, refl}
use Rattle.std.specs.List.{list_any}
use Rattle.std.proofs.lemmas.List.Recursion.{same_from_clauses}
use Rattle.map.specs.declared.Area.{Area}
use Rattle.wider.specs.Wider.{covers, covered}

pub any_covers : (areas : List Area) (narrow : Area) → covered areas narrow ≡ list_any (λ (a : Area). covers a narrow) areas
unfolding covered
any_covers areas narrow =
    same_from_clauses (λ (l : List Area). covered l narrow) (list_any (λ (a : Area). covers a narrow)) (λ a r. covers a narrow || r) refl (λ a r. refl) (λ a r. refl) areas
