-- The first of two clauses that fails: the second where the first holds, and else the first.
-- Assumes nothing.
use mathlib.Core.Bool.{true, false≢true, ◌&&◌}
use mathlib.Core.Path.{◌≡◌, refl}
use Rattle.std.specs.Prelude.{Result, Ok, Err, is_ok}
use Rattle.clauses.specs.declared.Clause.{Clause}
use Rattle.clauses.specs.Clauses.{first}

-- Only one answer says that no clause fails.
pub sound_only : (c : Result Unit Clause) → is_ok c ≡ true → c ≡ Ok tt
sound_only (Ok tt) h = refl
sound_only (Err c) h = absurd (false≢true h)

-- The first of two holds where both hold.
pub first_both : (c d : Result Unit Clause) → is_ok (first c d) ≡ is_ok c && is_ok d
first_both (Ok _) d = refl
first_both (Err c) d = refl
