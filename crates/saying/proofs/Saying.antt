-- Laws of lines of octets, and of `Says`: nothing said, and one text after another, which is the two in a row.
-- Assumes nothing.
use mathlib.Core.Path.{◌≡◌, sym, ap, subst, ◌∙◌}
use mathlib.Core.List.{List, [], ◌∷◌, ◌++◌}
use Prim.Native.Nat.{ℕ, ◌+◌, ◌*◌, min}
use native.Mathlib.Omega.{arith}
use lib.ListN.{length, length-append}
use Rattle.laws.proofs.Order.{by_order}
use Rattle.octets.specs.Copy.{laid}
use Rattle.octets.proofs.Laid.{laid_none, laid-append, laid_past, laid-length}
use Rattle.characters.specs.Digits.{text_of}
use Rattle.characters.proofs.Digits.{text_length}
use Rattle.lines.specs.Lines.{newline}
use Rattle.saying.specs.Text.{line_of, Says}

-- A line has two digits for each octet, and the newline.
pub line_length : (s : List ℕ) → length (line_of s) ≡ 2 * length s + 1
line_length s = length-append (text_of s) (newline ∷ []) ∙ ap (λ (n : ℕ). n + 1) (text_length s)

-- Nothing is said, and the place is kept as `Says` has it.
pub says_none : {d : List ℕ} {at r : ℕ} → r ≡ min at (length d + 1) → Says [] at d r d
says_none {d = d} {at = at} e = record { at_is = omega (arith, e); text_is = sym (laid_none d at) }

-- The same text, by another name.
pub says_as : {s t d d' : List ℕ} {at r : ℕ} → s ≡ t → Says s at d r d' → Says t at d r d'
says_as {d = d} {d' = d'} {at = at} {r = r} e said = subst (λ (x : List ℕ). Says x at d r d') e said

-- Text said behind other text is both in a row, also where some of either found no room.
pub says_append : {s t d₀ d₁ d₂ : List ℕ} {at r₁ r₂ : ℕ} → Says s at d₀ r₁ d₁ → Says t r₁ d₁ r₂ d₂ → Says (s ++ t) at d₀ r₂ d₂
says_append {s = s} {t = t} {d₀ = d₀} {d₁ = d₁} {at = at} {r₁ = r₁} first second =
    let kept : length d₁ ≡ length d₀ = ap length first.text_is ∙ laid-length d₀ at s in
    let place : laid d₁ r₁ t ≡ laid d₁ (at + length s) t =
    by_order (at + length s) (length d₀)
    (λ h. ap (λ (k : ℕ). laid d₁ k t) (omega (arith, first.at_is)))
    (λ h. laid_past d₁ r₁ t (omega (arith, first.at_is)) ∙ sym (laid_past d₁ (at + length s) t (omega arith))) in
    record {
      at_is = omega (arith, first.at_is, second.at_is, length-append s t);
      text_is = second.text_is ∙ place ∙ ap (λ (d : List ℕ). laid d (at + length s) t) first.text_is ∙ laid-append d₀ at s t;
    }
