-- An area that is found, or not.
-- Assumes nothing.
use Rattle.std.specs.Prelude.{Some, None, Option}
use mathlib.Core.Path.{◌≡◌, refl, sym}
use mathlib.Core.Bool.{true, false, false≢true}
use Rattle.map.specs.declared.Area.{Area}
use Rattle.requests.specs.Request.{is_found}

pub found_is : (f : Option Area) → is_found f ≡ true → (a : Area) × (f ≡ Some a)
found_is (Some a) h = (a, refl)
found_is None h = absurd (false≢true h)

pub found_not : (f : Option Area) → is_found f ≡ false → f ≡ None
found_not (Some a) h = absurd (false≢true (sym h))
found_not None h = refl
