-- Demands 1 and 2 leave no choice: whatever terminal meets them is that of document 01, and so over a run.
-- Assumes nothing.
use mathlib.Core.Path.{◌≡◌, refl, sym, ap, subst, ◌∙◌}
use mathlib.Core.Logic.{⊎_elim}
use mathlib.Core.List.{List, [], ◌∷◌, ◌++◌}
use lib.ListN.{drop}
use Rattle.laws.specs.Fold.{answers}
use Rattle.laws.proofs.Tests.{by-test}
use Rattle.checks.specs.declared.Refusal.{Refusal}
use Rattle.checks.specs.Verdict.{Verdict}
use Rattle.checks.specs.Verdict.{is_accepted}
use Rattle.checks.specs.Table.{Row}
use Rattle.checks.proofs.Table.{answer-from}
use Rattle.map.specs.declared.Profile.{Profile}
use Rattle.terminal.specs.Outcome.{Input, verdict_on, outcome_of}
use Rattle.terminal.specs.Run.{Machine, Step, Answer, input_for, after}
use Rattle.demands.specs.Terminal.{Terminal, reference, rows_on, leaves, run_of}
use Rattle.demands.specs.Refusing.{Decides, unreported, refusal_frame, Refuses}
use Rattle.demands.specs.Serving.{Reports, RunServes}
use Rattle.demands.proofs.Demand1.{terminal_refuses}
use Rattle.demands.proofs.Demand2.{terminal_reports}

-- A table decides one verdict.
pub one_verdict : (table : List (Row Refusal)) (v w : Verdict) → Decides table v → Decides table w → v ≡ w
one_verdict table v w a b =
    ⊎_elim (λ all. a.accepts all ∙ sym (b.accepts all)) (λ f. a.refuses f.0 f.1 ∙ sym (b.refuses f.0 f.1)) (answer-from table)

-- All parts but the verdict are the same.
record SameParts (a b : Answer) : Type 0 where
  written : a.outcome.written ≡ b.outcome.written
  state : a.outcome.state ≡ b.outcome.state
  out : a.out ≡ b.out
  store : a.store ≡ b.store

-- Demand 1 alone leaves one verdict.
pub same_verdict : (f : Terminal) → Refuses f → (i : Input) → (f i).outcome.verdict ≡ verdict_on i
unfolding outcome_of
same_verdict f one i = one_verdict (rows_on i) _ _ (one.decides i) (terminal_refuses.decides i)

module _ (f : Terminal) (one : Refuses f) (two : Reports f) where
  same_parts : (i : Input) → SameParts (f i) (reference i)
  unfolding outcome_of
  same_parts i =
      let v : (f i).outcome.verdict ≡ verdict_on i = same_verdict f one i in
      by-test (is_accepted (verdict_on i))
      (λ yes.
      let a = two.serves i yes in
      let b = terminal_reports.serves i yes in
      record { written = a.written ∙ sym b.written; state = a.state ∙ sym b.state; out = a.buffer ∙ sym b.buffer; store = a.store ∙ sym b.store })
      (λ no.
      by-test (unreported (verdict_on i))
      (λ silent.
      let a = one.silent i (rw v silent) in
      let b = terminal_refuses.silent i silent in
      record { written = a.written ∙ sym b.written; state = a.state ∙ sym b.state; out = a.buffer ∙ sym b.buffer; store = a.store ∙ sym b.store })
      (λ heard.
      let a = one.reported i (rw v no) (rw v heard) in
      let b = terminal_refuses.reported i no heard in
      record {
        written = a.written ∙ sym b.written;
        state = a.state ∙ sym b.state;
        out = a.buffer ∙ ap (λ (x : Verdict). refusal_frame i x ++ drop 24 i.out) v ∙ sym b.buffer;
        store = a.store ∙ sym b.store;
      }))

  -- On every input the answer is that of document 01, in every part. Ruled out: any terminal that differs from it anywhere.
  pub no_other_terminal : (i : Input) → f i ≡ reference i
  unfolding outcome_of
  no_other_terminal i =
      let s = same_parts i in
      λ k. record { outcome = record { verdict = same_verdict f one i k; written = s.written k; state = s.state k }; out = s.out k; store = s.store k }

  -- Over a run each accepted packet is answered by the rules, from where the rules have come by the packets before it. Ruled out: a terminal that serves only its first packet.
  pub run_serves : (p : Profile) (m : Machine) (steps : List Step) → RunServes p m steps (run_of f p m steps)
  unfolding RunServes answers
  run_serves p m [] = refl
  run_serves p m (s ∷ steps) =
      let left : leaves f p m s ≡ after p m s = ap (λ (a : Answer). record { state = a.outcome.state; store = a.store }) (no_other_terminal (input_for p m s)) in
      (two.serves (input_for p m s), subst (λ (n : Machine). RunServes p (after p m s) steps (run_of f p n steps)) (sym left) (run_serves p (after p m s) steps))
