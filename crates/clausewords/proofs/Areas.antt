-- Laws of what is said of two areas: words behind other words.
-- Assumes nothing.
use mathlib.Core.Path.{◌≡◌, subst}
use mathlib.Core.List.{List, ◌++◌, append_assoc}
use Prim.Native.Nat.{ℕ}
use Rattle.saying.specs.Text.{Says}
use Rattle.saying.proofs.Saying.{says_append}
use Rattle.clausewords.specs.Clausewords.{of_areas}

areas_append : (i j : ℕ) (s t : List ℕ) → of_areas i j s ++ t ≡ of_areas i j (s ++ t)
areas_append i j s t = simp append_assoc

-- Text said behind some words of two areas is one of their words.
pub says_areas : (i j : ℕ) (s : List ℕ) {t d₀ d₁ d₂ : List ℕ} {at r₁ r₂ : ℕ} → Says (of_areas i j s) at d₀ r₁ d₁ → Says t r₁ d₁ r₂ d₂ → Says (of_areas i j (s ++ t)) at d₀ r₂ d₂
says_areas i j s {t = t} {d₀ = d₀} {d₂ = d₂} {at = at} {r₂ = r₂} first second =
    subst (λ (x : List ℕ). Says x at d₀ r₂ d₂) (areas_append i j s t) (says_append first second)
