-- From the reports laid to the whole answer.
-- Assumes nothing.
use mathlib.Core.Path.{◌≡◌, sym, ap, ap₂, ◌∙◌}
use mathlib.Core.List.{List}
use Prim.Native.Nat.{ℕ}
use native.Mathlib.Omega.{arith}
use native.Mathlib.Nat.{zero-add}
use lib.ListN.{length}
use Rattle.laws.specs.Fold.{joined}
use Rattle.octets.specs.Copy.{laid}
use Rattle.checks.specs.Verdict.{Verdict}
use Rattle.tm.specs.Frame.{Report, frames_of, counts_after}
use Rattle.tm.proofs.Frame.{time_six}
use Rattle.terminal.specs.declared.Outcome.{Outcome}
use Rattle.laying.specs.declared.Sender.{Sender}
use Rattle.laying.specs.declared.Progress.{Progress}
use Rattle.laying.specs.Lays.{octets_for}
use Rattle.terminal.specs.Outcome.{Input, verdict_on, reports_on, frames_due, octets_due, outcome_of, out_after, store_on, Answered}
use Rattle.terminal.specs.Act.{Did}
use Rattle.terminal.proofs.Due.{due_bounded}

module _ (i : Input) where
  -- Who answers, and from where.
  abbrev pub sender : Sender
  sender = record { pid = i.profile.pid; time = i.time }

  abbrev pub start : Progress
  start = record { at = 0; counts = i.state.counts }

  -- The octets laid for the reports due are the octets due.
  octets_due_lem : length i.time ≡ 6 → (reports : List Report) → reports ≡ reports_on i → octets_for sender i.state.counts reports ≡ octets_due i
  unfolding frames_due
  octets_due_lem six reports due =
      ap₂ (λ (t : List ℕ) (rs : List Report). joined (frames_of i.profile.pid t i.state.counts rs)) (sym (time_six i.time six)) due

  -- Reports laid from the front on, and the store as it is to be, are the answer.
  pub answered : (most : ℕ) (v : Verdict) (q : Progress) (out store : List ℕ) (reports : List Report) (r : Outcome)
      → length i.time ≡ 6 → v ≡ verdict_on i → reports ≡ reports_on i → store ≡ store_on i
      → Did most sender start q i.out out reports
      → r ≡ record { verdict = v; written = q.at; state = record { counts = q.counts } }
      → Answered i r store out
  unfolding outcome_of out_after
  answered most v q out store reports r six verdict due kept did made =
      let written : q.at ≡ length (octets_due i) = did.at_is ∙ zero-add _ ∙ ap length (octets_due_lem six reports due) in
      record {
        outcome_is = made ∙ (λ k. record {
          verdict = verdict k;
          written = written k;
          state = record { counts = (did.counts_is ∙ ap (λ (rs : List Report). counts_after i.state.counts rs) due) k };
        });
        most = omega (arith, ap (λ (o : Outcome). o.written) made, written, due_bounded i);
        store_is = kept;
        out_is = did.out_is ∙ ap (λ (o : List ℕ). laid i.out 0 o) (octets_due_lem six reports due);
      }
