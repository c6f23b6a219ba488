-- What tests tell: a test is true or false, a branch on a call's negated answer, tests joined by `&&` and `||`, and a choice.
-- Assumes nothing.
use mathlib.Core.Bool.{Bool, true, false, not, cond, ◌&&◌, ◌||◌, and-eq-true_iff}
use mathlib.Core.Logic.{◌⊎◌, inl, inr}
use mathlib.Core.Path.{◌≡◌, refl, sym, ◌∙◌}
use borrow.Author.Tests.{not-true, not-false}

-- A test is true or false.
pub by-test {ℓ} : {X : Type ℓ} (b : Bool) → (b ≡ true → X) → (b ≡ false → X) → X
by-test true f g = f refl
by-test false f g = g refl

-- What an answer that equals a test tells of the test, in each branch of `if !answer`.
module _ {answer test : Bool} (decided : answer ≡ test) where
  pub refused : not answer ≡ true → test ≡ false
  refused h = sym decided ∙ not-true answer h

  pub passed : not answer ≡ false → test ≡ true
  passed h = sym decided ∙ not-false answer h

-- A test of two halves that holds.
pub both : (p q : Bool) → p && q ≡ true → (p ≡ true) × (q ≡ true)
both p q e = (and-eq-true_iff p q).0 e

module _ (a b : Bool) where
  pub and_left : a && b ≡ true → a ≡ true
  and_left h = (both a b h).0

  pub and_right : a && b ≡ true → b ≡ true
  and_right h = (both a b h).1

-- For `search`: each half of a test that holds.
pub ruleset halves = (and_left, and_right)

pub or_cases : (a b : Bool) → a || b ≡ true → (a ≡ true) ⊎ (b ≡ true)
or_cases true b h = inl refl
or_cases false b h = inr h

pub or_swap : (a b : Bool) → a || b ≡ true → b || a ≡ true
or_swap true true h = refl
or_swap true false h = refl
or_swap false b h = rw h

pub or_right : (a b : Bool) → b ≡ true → a || b ≡ true
or_right true b h = refl
or_right false b h = h

pub cond_cases :
    {A : Type 0} (test : Bool) (x y z : A) → cond test x y ≡ z → ((test ≡ true) × (x ≡ z)) ⊎ ((test ≡ false) × (y ≡ z))
cond_cases true x y z h = inl (refl, h)
cond_cases false x y z h = inr (refl, h)
