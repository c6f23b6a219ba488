-- Laws of a machine that is given one thing after another: things behind other things.
-- Assumes nothing.
use mathlib.Core.Path.{◌≡◌, refl, sym, ap, ◌∙◌}
use mathlib.Core.List.{List, [], ◌∷◌, ◌++◌, append_assoc}
use Prim.Native.Nat.{ℕ, zero, suc}
use lib.ListN.{replicate}
use Rattle.laws.specs.Fold.{answers, reached, joined}

module _ {M E : Type 0} (becomes : M → E → M) where
  pub reached-append : (m : M) (xs ys : List E) → reached becomes m (xs ++ ys) ≡ reached becomes (reached becomes m xs) ys
  unfolding reached
  reached-append m [] ys = refl
  reached-append m (x ∷ xs) ys = reached-append (becomes m x) xs ys

  pub answers_append : {A : Type 0} (says : M → E → A) (m : M) (xs ys : List E)
      → answers says becomes m (xs ++ ys) ≡ answers says becomes m xs ++ answers says becomes (reached becomes m xs) ys
  unfolding answers reached
  answers_append says m [] ys = refl
  answers_append {A = A} says m (x ∷ xs) ys = ap (λ (r : List A). says m x ∷ r) (answers_append says (becomes m x) xs ys)

module _ {A : Type 0} where
  pub joined-append : (xs ys : List (List A)) → joined (xs ++ ys) ≡ joined xs ++ joined ys
  unfolding joined
  joined-append [] ys = refl
  joined-append (x ∷ xs) ys = ap (λ (r : List A). x ++ r) (joined-append xs ys) ∙ sym (append_assoc x (joined xs) (joined ys))

  -- Empty lists add nothing.
  joined-none : (n : ℕ) → joined {A = A} (replicate n []) ≡ []
  unfolding joined
  joined-none zero = refl
  joined-none (suc n) = joined-none n

  pub joined_more : (parts : List (List A)) (n : ℕ) → joined (parts ++ replicate n []) ≡ joined parts
  unfolding joined
  joined_more [] n = joined-none n
  joined_more (part ∷ parts) n = ap (λ (r : List A). part ++ r) (joined_more parts n)
