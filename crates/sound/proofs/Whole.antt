-- What `all` says of a list is what `every` says of it.
-- Assumes nothing.
use mathlib.Core.Bool.{Bool, ◌&&◌}
use mathlib.Core.List.{List}
use mathlib.Core.Path.{◌≡◌, refl}
use Rattle.std.specs.List.{list_all}
use Rattle.std.proofs.lemmas.List.Recursion.{same_from_clauses}
use Rattle.laws.specs.Each.{every}

pub all_every : {A : Type 0} (test : A → Bool) (xs : List A) → every test xs ≡ list_all test xs
unfolding every
all_every test xs = same_from_clauses (every test) (list_all test) (λ x r. test x && r) refl (λ x r. refl) (λ x r. refl) xs
