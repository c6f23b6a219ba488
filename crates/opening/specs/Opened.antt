-- What a program is handed with a unit.
use Rattle.std.specs.Prelude.{◌≡◌, Ok}
use Rattle.clauses.specs.Clauses.{clause_of}
use Rattle.desk.specs.declared.Desk.{Desk}
use Rattle.desk.specs.Place.{desk_for}

-- The desk stands before the first line, and its unit fails no clause of soundness.
pub record Opened (d : Desk) : Type 0 where
  pub first : d ≡ desk_for d.draft
  pub sound : clause_of d.draft.profile d.draft.stored ≡ Ok tt
