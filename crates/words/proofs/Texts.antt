-- Laws of texts that are the same.
-- Assumes nothing.
use mathlib.Core.Path.{◌≡◌, refl, ap, ap₂}
use mathlib.Core.Bool.{Bool, true, ◌&&◌, false≢true}
use mathlib.Core.List.{List, [], ◌∷◌}
use Prim.Native.Nat.{ℕ}
use lib.Dec.{eqb}
use borrow.Author.Tests.{eqb-true}
use Rattle.std.specs.Cmp.Lexicographic.{pointwise}
use Rattle.laws.proofs.Tests.{both}
use Rattle.words.specs.Words.{same_text}

pub same_true : (a b : List ℕ) → same_text a b ≡ true → a ≡ b
unfolding same_text
same_true [] [] t = refl
same_true [] (d ∷ b) t = absurd (false≢true t)
same_true (c ∷ a) [] t = absurd (false≢true t)
same_true (c ∷ a) (d ∷ b) t =
    let halves : (eqb c d ≡ true) × (same_text a b ≡ true) = both (eqb c d) (same_text a b) t in
    ap₂ (λ (x : ℕ) (r : List ℕ). x ∷ r) (eqb-true c d halves.0) (same_true a b halves.1)

-- So the library's `==` has it.
pub same_pointwise : (a b : List ℕ) → pointwise eqb a b ≡ same_text a b
unfolding same_text
same_pointwise [] [] = refl
same_pointwise [] (d ∷ b) = refl
same_pointwise (c ∷ a) [] = refl
same_pointwise (c ∷ a) (d ∷ b) = ap (λ (t : Bool). eqb c d && t) (same_pointwise a b)
