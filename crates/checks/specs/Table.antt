-- A table of checks in their order, for any paper: rows, the answer of the first row that does not hold, and that row.
use Rattle.std.specs.Prelude.{◌≡◌, Bool, true, false, cond, ◌⊎◌, List, [], ◌∷◌}

-- A check: its refusal where it fails, and whether it holds.
pub record Row (R : Type 0) : Type 0 where
  pub refusal : R
  pub holds : Bool

-- The answer: that of the first row that does not hold, and the given one where all do.
unfoldable pub answer : {A R : Type 0} → A → (R → A) → List (Row R) → A
answer fine refuses [] = fine
answer fine refuses (r ∷ rest) = cond r.holds (answer fine refuses rest) (refuses r.refusal)

-- A row is the first of a table that does not hold.
unfoldable pub First : {R : Type 0} → List (Row R) → Row R → Type 0
First [] r = ⊥
First (x ∷ rest) r = ((x.holds ≡ false) × (r ≡ x)) ⊎ ((x.holds ≡ true) × First rest r)

-- Every row of a table holds.
unfoldable pub AllHold : {R : Type 0} → List (Row R) → Type 0
AllHold [] = Unit
AllHold (r ∷ rest) = (r.holds ≡ true) × AllHold rest
