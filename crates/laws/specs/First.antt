-- The first of some tests that fails.
use Rattle.std.specs.Prelude.{Bool, cond, List, [], ◌∷◌, ℕ, suc, eqb, Option, Some, None}

-- The place of the first of some tests that fails, the first test counted as the given number; 0 where none does.
unfoldable pub first_from : ℕ → List Bool → ℕ
first_from k [] = 0
first_from k (test ∷ rest) = cond test (first_from (suc k) rest) k

-- The place, from 1, of the first of some tests that fails; 0 where none does.
abbrev pub first_wrong : List Bool → ℕ
first_wrong tests = first_from 1 tests

-- The number of the first that is wrong, where 0 says that none is.
abbrev pub wrong_number : ℕ → Option ℕ
wrong_number n = cond (eqb n 0) None (Some n)
