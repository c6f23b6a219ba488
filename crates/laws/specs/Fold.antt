-- A machine that is given one thing after another: what it says to each, and what it becomes.
use Rattle.std.specs.Prelude.{List, [], ◌∷◌, ◌++◌}

module _ {M E A : Type 0} (says : M → E → A) (becomes : M → E → M) where
  -- What is said to some things in turn, each from what the one before left.
  unfoldable pub answers : M → List E → List A
  answers m [] = []
  answers m (e ∷ rest) = says m e ∷ answers (becomes m e) rest

-- What the machine is after some things in turn.
unfoldable pub reached : {M E : Type 0} → (M → E → M) → M → List E → M
reached becomes m [] = m
reached becomes m (e ∷ rest) = reached becomes (becomes m e) rest

-- Some lists, one behind another.
unfoldable pub joined : {A : Type 0} → List (List A) → List A
joined [] = []
joined (x ∷ rest) = x ++ joined rest
