-- Laws of `first_from`: no test fails exactly where each element passes; a test that more elements pass fails later.
-- Assumes nothing.
use Rattle.std.specs.Prelude.{Some, None}
use Rattle.std.proofs.lemmas.Option.{none-some}
use mathlib.Core.Path.{◌≡◌, refl, sym}
use mathlib.Core.Bool.{Bool, true, false}
use mathlib.Core.Logic.{◌⊎◌, inl, inr, ⊎_elim}
use mathlib.Core.List.{List, [], ◌∷◌, map}
use Prim.Native.Nat.{ℕ, suc, ◌+◌, ◌≤◌}
use native.Mathlib.Omega.{arith}
use lib.ListN.{length}
use lib.Dec.{eqb}
use Rattle.laws.specs.Each.{Each}
use Rattle.laws.specs.First.{first_from, wrong_number}
use Rattle.laws.proofs.Tests.{by-test}

-- Where no test fails, each holds.
pub none-wrong : (k : ℕ) (tests : List Bool) → 1 ≤ k → first_from k tests ≡ 0 → Each (λ (b : Bool). b ≡ true) tests
unfolding first_from
none-wrong k [] h e = tt
none-wrong k (b ∷ rest) h e =
    by-test b
    (λ t. (t, none-wrong (suc k) rest (omega arith) (rw t at e)))
    (λ w.
    let zero : k ≡ 0 = rw w at e in
    absurd (omega arith))

-- Where no test fails, each element passes.
pub none_each : {A : Type 0} (f : A → Bool) (xs : List A) (k : ℕ) → 1 ≤ k → first_from k (map f xs) ≡ 0 → Each (λ (x : A). f x ≡ true) xs
unfolding first_from
none_each f [] k h e = tt
none_each f (x ∷ xs) k h e =
    by-test (f x)
    (λ t. (t, none_each f xs (suc k) (omega arith) (rw t at e)))
    (λ w.
    let zero : k ≡ 0 = rw w at e in
    absurd (omega arith))

-- No test fails, or the first that does has at least the number of the first test.
pub first-reached : (k : ℕ) (tests : List Bool) → (first_from k tests ≡ 0) ⊎ (k ≤ first_from k tests)
unfolding first_from
first-reached k [] = inl refl
first-reached k (test ∷ rest) =
    by-test test
    (λ t. rw t (⊎_elim (λ e. inl e) (λ h. inr (omega arith)) (first-reached (suc k) rest)))
    (λ w. rw w (inr (omega arith)))

-- Where one test implies another, the other never fails, or the one fails too and no later.
pub implied_later : {A : Type 0} (f g : A → Bool) (xs : List A) (k : ℕ) → 1 ≤ k → ((x : A) → f x ≡ true → g x ≡ true)
    → (first_from k (map g xs) ≡ 0) ⊎ ((1 ≤ first_from k (map f xs)) × (first_from k (map f xs) ≤ first_from k (map g xs)))
unfolding first_from
implied_later f g [] k h so = inl refl
implied_later f g (x ∷ xs) k h so =
    by-test (f x)
    (λ t. rw (t, so x t) (implied_later f g xs (suc k) (omega arith) so))
    (λ w. rw w (⊎_elim (λ e. inl e) (λ r. inr (h, r)) (first-reached k (map g (x ∷ xs)))))

-- The first test that fails is one of them.
pub first_most : (k : ℕ) (tests : List Bool) → first_from k tests ≤ k + length tests
unfolding first_from
first_most k [] = omega arith
first_most k (test ∷ rest) =
    by-test test
    (λ t. rw t (omega (arith, first_most (suc k) rest)))
    (λ w. rw w (omega arith))

-- What a number of the first that is wrong tells, and what none does.
module _ (n : ℕ) where
  pub wrong_is : {k : ℕ} → wrong_number n ≡ Some k → (n ≡ k) × (eqb n 0 ≡ false)
  wrong_is {k = k} h = by-test (eqb n 0) (λ t. absurd (none-some _ (rw t at h))) (λ f. (let e : Some n ≡ Some k = rw f at h in cc, f))

  pub wrong_none : wrong_number n ≡ None → eqb n 0 ≡ true
  wrong_none h = by-test (eqb n 0) (λ t. t) (λ f. absurd (none-some _ (sym (rw f at h))))
