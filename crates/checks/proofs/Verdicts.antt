-- Laws of verdicts: each refusal is given exactly when its row is the first that fails, and acceptance exactly when every row holds.
-- Assumes nothing.
use Rattle.std.specs.Prelude.{Ok, Err}
use mathlib.Core.Path.{◌≡◌, refl, sym, ap, subst, ◌∙◌}
use mathlib.Core.Bool.{true, false, false≢true}
use mathlib.Core.Logic.{◌⊎◌, inl, inr, ⊎_elim}
use mathlib.Core.List.{List}
use Prim.Native.Nat.{ℕ}
use Rattle.laws.specs.Each.{Each}
use Rattle.checks.specs.declared.Refusal.{Refusal}
use Rattle.checks.specs.Verdict.{Verdict}
use Rattle.checks.specs.Table.{Row, First, AllHold}
use Rattle.checks.specs.Verdict.{is_accepted, detail_of, verdict_by}
use Rattle.checks.proofs.Table.{first-row, first_gives, all_give, accepted-all, answer-from}

module _ (rows : List (Row Refusal)) where
  -- The first row that fails gives the verdict.
  pub first_refuses : (r : Row Refusal) → First rows r → verdict_by rows ≡ Err r.refusal
  first_refuses r f = first_gives (Ok tt) Err rows r f

  -- Where every row holds the verdict is acceptance.
  pub all_accept : AllHold rows → verdict_by rows ≡ Ok tt
  all_accept h = all_give (Ok tt) Err rows h

  -- Every row holds where the verdict is acceptance.
  pub accepted_holds : is_accepted (verdict_by rows) ≡ true → AllHold rows
  accepted_holds h = accepted-all (Ok tt) Err is_accepted (λ r. refl) rows h

  -- One of the two.
  pub accepted_or_first : (AllHold rows × (verdict_by rows ≡ Ok tt)) ⊎ ((r : Row Refusal) × First rows r × (verdict_by rows ≡ Err r.refusal))
  accepted_or_first =
      ⊎_elim
      (λ (all : AllHold rows). inl (all, all_accept all))
      (λ (f : (r : Row Refusal) × First rows r). inr (f.0, f.1, first_refuses f.0 f.1))
      (answer-from rows)

  -- A refusal comes from the first row that fails.
  pub refused-first : is_accepted (verdict_by rows) ≡ false → (r : Row Refusal) × First rows r × (verdict_by rows ≡ Err r.refusal)
  refused-first h =
      ⊎_elim
      (λ (all : AllHold rows × (verdict_by rows ≡ Ok tt)). absurd (false≢true (sym h ∙ ap is_accepted all.1)))
      (λ f. f)
      accepted_or_first

  -- The detail of a verdict is 0, or that of a row: what each of them has, it has.
  pub verdict_detail : (P : ℕ → Type 0) → P 0 → Each (λ (r : Row Refusal). P r.refusal.detail) rows → P (detail_of (verdict_by rows))
  verdict_detail P none each =
      ⊎_elim
      (λ (all : AllHold rows × (verdict_by rows ≡ Ok tt)). subst (λ (v : Verdict). P (detail_of v)) (sym all.1) none)
      (λ f. subst (λ (v : Verdict). P (detail_of v)) (sym f.2) (first-row (λ (r : Row Refusal). P r.refusal.detail) rows f.0 each f.1).0)
      accepted_or_first
