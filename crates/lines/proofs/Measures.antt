-- Measures of what a machine comes to that is given one thing after another: what it says and what it becomes are two, and a law of any measure is a law of both.
-- Assumes nothing.
use mathlib.Core.Path.{◌≡◌, refl, sym, ap, ap₂, ◌∙◌}
use mathlib.Core.List.{List, [], ◌∷◌, ◌++◌, append_assoc}
use Prim.Native.Nat.{ℕ}
use Rattle.laws.specs.Fold.{answers, reached, joined}

-- A measure: where nothing more is given it goes by what the machine is, and each answer adds to what the rest comes to.
pub record Measure (M X : Type 0) : Type 1 where
  pub of : {E : Type 0} → (M → E → List ℕ) → (M → E → M) → M → List E → X
  pub none : M → X
  pub add : List ℕ → X → X
  pub add_none : (x : X) → add [] x ≡ x
  pub add-append : (s t : List ℕ) (x : X) → add (s ++ t) x ≡ add s (add t x)
  pub of_none : {E : Type 0} (says : M → E → List ℕ) (becomes : M → E → M) (m : M) → of says becomes m [] ≡ none m
  pub of_cons : {E : Type 0} (says : M → E → List ℕ) (becomes : M → E → M) (m : M) (e : E) (rest : List E)
      → of says becomes m (e ∷ rest) ≡ add (says m e) (of says becomes (becomes m e) rest)

module _ {M : Type 0} where
  module _ {E : Type 0} (says : M → E → List ℕ) (becomes : M → E → M) (m : M) where
    pub said_none : joined (answers says becomes m []) ≡ []
    unfolding answers joined
    said_none = refl

    pub said_cons : (e : E) (rest : List E) → joined (answers says becomes m (e ∷ rest)) ≡ says m e ++ joined (answers says becomes (becomes m e) rest)
    unfolding answers joined
    said_cons e rest = refl

    pub reached-none : reached becomes m [] ≡ m
    unfolding reached
    reached-none = refl

    pub reached-cons : (e : E) (rest : List E) → reached becomes m (e ∷ rest) ≡ reached becomes (becomes m e) rest
    unfolding reached
    reached-cons e rest = refl

  -- What is said.
  abbrev pub what_is_said : Measure M (List ℕ)
  what_is_said =
      record {
        of = λ says becomes m es. joined (answers says becomes m es);
        none = λ m. [];
        add = λ s t. s ++ t;
        add_none = λ t. refl;
        add-append = append_assoc;
        of_none = said_none;
        of_cons = said_cons;
      }

  -- What the machine is in the end.
  abbrev pub what_is_reached : Measure M M
  what_is_reached =
      record {
        of = λ says becomes m es. reached becomes m es;
        none = λ m. m;
        add = λ s n. n;
        add_none = λ n. refl;
        add-append = λ s t n. refl;
        of_none = reached-none;
        of_cons = reached-cons;
      }

-- Two machines, given things to which they say and become the same.
module _ {M X E F : Type 0} (k : Measure M X) (says : M → E → List ℕ) (becomes : M → E → M) (says' : M → F → List ℕ) (becomes' : M → F → M) where
  pub same_none : (m : M) → k.of says becomes m [] ≡ k.of says' becomes' m []
  same_none m = k.of_none says becomes m ∙ sym (k.of_none says' becomes' m)

  pub same_cons : (m : M) (e : E) (f : F) (es : List E) (fs : List F) → says m e ≡ says' m f → becomes m e ≡ becomes' m f
      → ((n : M) → k.of says becomes n es ≡ k.of says' becomes' n fs) → k.of says becomes m (e ∷ es) ≡ k.of says' becomes' m (f ∷ fs)
  same_cons m e f es fs a b h =
      k.of_cons says becomes m e es
      ∙ ap₂ k.add a (h (becomes m e) ∙ ap (λ (n : M). k.of says' becomes' n fs) b)
      ∙ sym (k.of_cons says' becomes' m f fs)
