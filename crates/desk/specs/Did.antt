-- What a caller is promised of an answer that is written into a text from a place on.
use Rattle.std.specs.Prelude.{◌≡◌, ℕ, List}
use Rattle.lines.specs.Feed.{Lent}
use Rattle.saying.specs.Text.{Says}
use Rattle.desk.specs.declared.Desk.{Desk}
use Rattle.desk.specs.declared.Done.{Done}
use Rattle.desk.specs.Place.{Place, place_of}

-- Every part of the outcome, by an equation.
pub record Did (answer : List ℕ) (after : Place) (at : ℕ) (text : List ℕ) (r : Done) (store out text' : List ℕ) : Type 0 where
  pub says : Says answer at text r.at text'
  pub desk_is : r.desk ≡ after.desk
  pub store_is : store ≡ after.store
  pub out_is : out ≡ after.out

-- The same over what the function is lent, from what is said and what goes on.
abbrev pub DidBy : (Place → List ℕ) → (Place → Place) → Desk → ℕ → Lent → Lent → Lent → Done → Type 0
DidBy says becomes desk at store out text r =
    Did (says (place_of desk store.entry out.entry)) (becomes (place_of desk store.entry out.entry))
    at text.entry.now r store.exit.now out.exit.now text.exit.now
