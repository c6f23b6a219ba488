-- What is said of a packet, by the decision on it.
-- Assumes nothing.
use Rattle.std.specs.Prelude.{Ok, Err}
use mathlib.Core.Path.{◌≡◌, sym, ap, ◌∙◌}
use mathlib.Core.List.{List}
use Prim.Native.Nat.{ℕ}
use Rattle.checks.specs.declared.Refusal.{Refusal}
use Rattle.map.specs.declared.Profile.{Profile}
use Rattle.serving.specs.declared.Work.{Work}
use Rattle.serving.specs.Decision.{Decision, verdict_of}
use Rattle.decide.specs.Table.{packet_decision}
use Rattle.decide.proofs.Checked.{packet_verdict}
use Rattle.explaining.specs.Explanation.{reason_for, explained_by, explanation_of}

module _ (p : Profile) (packet : List ℕ) (d : Decision) (decided : d ≡ packet_decision p packet) where
  explained : explained_by packet (verdict_of d) ≡ explanation_of p packet
  unfolding explanation_of
  explained = ap (explained_by packet) (ap verdict_of decided ∙ packet_verdict p packet)

  -- It is accepted, or refused.
  pub explained_accepted : (w : Work) → d ≡ Ok w → Ok tt ≡ explanation_of p packet
  explained_accepted w is = sym (ap (λ (x : Decision). explained_by packet (verdict_of x)) is) ∙ explained

  pub explained_refused : (r : Refusal) → d ≡ Err r → Err (reason_for packet r) ≡ explanation_of p packet
  explained_refused r is = sym (ap (λ (x : Decision). explained_by packet (verdict_of x)) is) ∙ explained
