-- A number that is stated is at most as large as it may be.
-- Assumes nothing.
use Rattle.std.proofs.Common.{◌≡◌, ℕ, ◌≤◌, List, [], ◌∷◌, Result, Ok, Err, arith}
use Rattle.std.specs.Prelude.{leb}
use borrow.Author.Tests.{leb-true}
use Rattle.laws.proofs.Tests.{by-test}
use Rattle.numerals.specs.declared.NumeralError.{NumeralError}
use Rattle.numerals.specs.Numbers.{numeral_of}
use Rattle.stating.specs.declared.fault.Fault.{Fault}
use Rattle.stating.specs.Stating.{bounded, number_stated}

bounded_most : (most : ℕ) (large : Fault) (r : Result ℕ NumeralError) {n : ℕ} → Ok n ≡ bounded most large r → n ≤ most
bounded_most most large (Ok x) {n} e =
    by-test (leb x most)
    (λ t. let same : Ok n ≡ Ok x = rw t at e in let less : x ≤ most = leb-true x most t in let is : n ≡ x = cc in omega arith)
    (λ w. let none : Ok n ≡ Err large = rw w at e in absurd (cc))
bounded_most most large (Err f) e = absurd (cc)

pub number_bound : (most : ℕ) (missing large : Fault) (ws : List (List ℕ)) {n : ℕ} → Ok n ≡ number_stated most missing large ws → n ≤ most
unfolding number_stated
number_bound most missing large [] e = absurd (cc)
number_bound most missing large (w ∷ ws) e = bounded_most most large (numeral_of w) e
