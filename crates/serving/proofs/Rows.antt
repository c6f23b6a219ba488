-- Decisions row by row: a row that holds is passed, a row that fails gives its refusal.
-- Assumes nothing.
use Rattle.std.specs.Prelude.{Err}
use mathlib.Core.Path.{◌≡◌, refl, sym, ap}
use mathlib.Core.Bool.{Bool, true, false, false≢true}
use mathlib.Core.List.{List, [], ◌∷◌}
use Prim.Native.Nat.{ℕ}
use Rattle.laws.proofs.Tests.{by-test}
use Rattle.checks.specs.declared.Check.{Check}
use Rattle.checks.specs.declared.Refusal.{Refusal}
use Rattle.checks.specs.Table.{Row, answer}
use Rattle.checks.specs.Verdict.{Verdict, is_accepted, refusal, row, verdict_by}
use Rattle.checks.proofs.Table.{row-passes, row_refuses, all_give}
use Rattle.checks.proofs.Verdicts.{accepted_holds}
use Rattle.serving.specs.declared.Work.{Work}
use Rattle.serving.specs.Decision.{Decision, verdict_of, decided_by}

-- The decision that a check failed.
abbrev pub failing : Check → ℕ → Decision
failing check detail = Err (refusal check detail)

-- Of rows behind which something is decided, acceptance or not.
module _ (fine : Decision) where
  -- A row that fails gives its refusal.
  pub refuses : (check : Check) (detail : ℕ) (holds : Bool) (rest : List (Row Refusal)) → holds ≡ false
      → answer fine Err (row check detail holds ∷ rest) ≡ failing check detail
  refuses check detail holds rest h = row_refuses fine Err (row check detail holds) rest h

  -- A row that holds is passed.
  pub passes : (check : Check) (detail : ℕ) (holds : Bool) (rest : List (Row Refusal)) → holds ≡ true
      → answer fine Err (row check detail holds ∷ rest) ≡ answer fine Err rest
  passes check detail holds rest h = row-passes fine Err (row check detail holds) rest h

  -- Where the rows refuse, so does the decision.
  pub rows_refuse : (rs : List (Row Refusal)) (r : Refusal) → verdict_by rs ≡ Err r → answer fine Err rs ≡ Err r
  unfolding answer
  rows_refuse [] r h = absurd (false≢true (ap is_accepted (sym h)))
  rows_refuse (x ∷ xs) r h = by-test x.holds (λ t. rw t (rows_refuse xs r (rw t at h))) (λ e. let k : ◌≡◌ {A = Verdict} (Err x.refusal) (Err r) = rw e at h in let same : x.refusal ≡ r = cc in rw e (ap Err same))

  -- Where the rows accept, the decision is the one given.
  pub rows_accept : (rs : List (Row Refusal)) → is_accepted (verdict_by rs) ≡ true → answer fine Err rs ≡ fine
  rows_accept rs h = all_give fine Err rs (accepted_holds rs h)

-- The verdict of a decision is that of its rows.
pub decision_verdict : (w : Work) (rs : List (Row Refusal)) → verdict_of (decided_by w rs) ≡ verdict_by rs
unfolding answer
decision_verdict w [] = refl
decision_verdict w (x ∷ xs) = by-test x.holds (λ t. rw t (decision_verdict w xs)) (λ f. rw f refl)
