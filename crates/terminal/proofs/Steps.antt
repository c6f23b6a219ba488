-- Steps of an answer: none, reports laid, and one step after another.
-- Assumes nothing.
use mathlib.Core.Path.{◌≡◌, refl, sym, ap, ap₂, ◌∙◌}
use mathlib.Core.List.{List, [], ◌++◌}
use Prim.Native.Nat.{ℕ, ◌+◌, ◌≤◌, ◌<◌}
use native.Mathlib.Nat.{add-zero}
use native.Mathlib.Omega.{arith}
use lib.ListN.{length, length-append}
use Rattle.laws.specs.Fold.{joined}
use Rattle.octets.specs.Copy.{laid}
use Rattle.octets.proofs.Laid.{laid-append, laid_none}
use Rattle.counts.specs.declared.Counts.{Counts}
use Rattle.tm.specs.Frame.{Report, frames_of, counts_after}
use Rattle.tm.proofs.Frames.{octets_in, frames_size, counts-append, octets_append}
use Rattle.laying.specs.declared.Sender.{Sender}
use Rattle.laying.specs.declared.Progress.{Progress}
use Rattle.laying.specs.Lays.{octets_for, Lays}
use Rattle.terminal.specs.Act.{Did}

module _ (sender : Sender) where
  -- Nothing done.
  pub did_none : (most : ℕ) (p : Progress) (out : List ℕ) → Did most sender p p out out []
  unfolding frames_of counts_after joined
  did_none most p out = record { at_is = sym (add-zero p.at); counts_is = refl; out_is = sym (laid_none out p.at); bounded = omega arith }

  -- Reports laid, of so few octets that the place behind them is in 16 bits.
  pub did_laid : (most : ℕ) (p q : Progress) (out out' : List ℕ) (rs : List Report)
      → length sender.time ≡ 6 → octets_in rs ≤ most → p.at + most < 65536 → Lays sender p q out out' rs → Did most sender p q out out' rs
  did_laid most p q out out' rs six few small lays =
      let size : length (octets_for sender p.counts rs) ≡ octets_in rs = frames_size sender.pid sender.time p.counts rs six in
      let at : q.at ≡ p.at + length (octets_for sender p.counts rs) = omega (arith, lays.at_is) in
      record { at_is = at; counts_is = lays.counts_is; out_is = lays.out_is; bounded = omega arith }

  -- One step after another.
  pub did_then : (a b : ℕ) (p q r : Progress) (o₁ o₂ o₃ : List ℕ) (xs ys : List Report)
      → Did a sender p q o₁ o₂ xs → Did b sender q r o₂ o₃ ys → Did (a + b) sender p r o₁ o₃ (xs ++ ys)
  did_then a b p q r o₁ o₂ o₃ xs ys first second =
      let f : List ℕ = octets_for sender p.counts xs in
      let g : List ℕ = octets_for sender q.counts ys in
      let both : octets_for sender p.counts (xs ++ ys) ≡ f ++ g =
      octets_append sender.pid sender.time p.counts xs ys ∙ ap (λ (c : Counts). f ++ octets_for sender c ys) (sym first.counts_is) in
      let size : length (octets_for sender p.counts (xs ++ ys)) ≡ length f + length g = ap length both ∙ length-append f g in
      record {
        at_is = omega (arith, first.at_is, second.at_is, size);
        counts_is = second.counts_is ∙ ap (λ (c : Counts). counts_after c ys) first.counts_is ∙ sym (counts-append p.counts xs ys);
        out_is =
            second.out_is
            ∙ ap₂ (λ (o : List ℕ) (n : ℕ). laid o n g) first.out_is first.at_is
            ∙ laid-append o₁ p.at f g
            ∙ ap (λ (h : List ℕ). laid o₁ p.at h) (sym both);
        bounded = omega (arith, first.bounded, second.bounded);
      }

  -- A larger bound holds too.
  pub did_weaken : (a b : ℕ) (p q : Progress) (out out' : List ℕ) (rs : List Report) → a ≤ b → Did a sender p q out out' rs → Did b sender p q out out' rs
  did_weaken a b p q out out' rs h d = record { at_is = d.at_is; counts_is = d.counts_is; out_is = d.out_is; bounded = omega (arith, d.bounded) }
