-- What goes on from an answer.
-- Assumes nothing.
use Rattle.std.proofs.Common.{◌≡◌, ℕ, List}
use Rattle.desk.specs.declared.Done.{Done}
use Rattle.desk.specs.Place.{Place}
use Rattle.desk.specs.Did.{Did}

-- The desk, the store and the buffer behind it, as one place.
pub did_after : {answer : List ℕ} {after : Place} {at : ℕ} {text : List ℕ} {r : Done} {store out text' : List ℕ} → Did answer after at text r store out text'
    → ◌≡◌ {A = Place} (record { desk = r.desk; store = store; out = out }) after
did_after s = λ i. record { desk = s.desk_is i; store = s.store_is i; out = s.out_is i }
