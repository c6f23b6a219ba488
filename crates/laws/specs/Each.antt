-- A property, or a test, of every element of a list.
use Rattle.std.specs.Prelude.{Bool, true, false, ◌&&◌, ◌||◌, List, [], ◌∷◌, ℕ, eqb}

-- Each element of a list has a property.
abbrev pub Each : {A : Type 0} → (A → Type 0) → List A → Type 0
Each P [] = Unit
Each P (x ∷ rest) = P x × Each P rest

-- A test holds of each element of a list.
unfoldable pub every : {A : Type 0} → (A → Bool) → List A → Bool
every test [] = true
every test (x ∷ rest) = test x && every test rest

-- A number is one of a list.
unfoldable pub among : ℕ → List ℕ → Bool
among n [] = false
among n (x ∷ rest) = eqb n x || among n rest
