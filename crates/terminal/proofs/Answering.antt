-- What is due, and what is left of the store, by the kind of the verdict.
-- Assumes nothing.
use mathlib.Core.Path.{◌≡◌, refl}
use mathlib.Core.Bool.{true, false}
use mathlib.Core.List.{[], ◌∷◌}
use Prim.Native.Nat.{◌≤◌}
use native.Mathlib.Omega.{arith}
use lib.ListN.{length}
use Rattle.checks.specs.Verdict.{is_accepted, silent}
use Rattle.tc.specs.Layout.{fields_of, application_of}
use Rattle.addressing.specs.Requested.{asked_by}
use Rattle.decide.specs.Table.{task_of}
use Rattle.serving.specs.Services.{FormedFor}
use Rattle.decide.proofs.Decided.{heard_facts, accepted_facts, formed_for}
use Rattle.laying.specs.Reports.{failed}
use Rattle.terminal.specs.Outcome.{Input, done_by, reports_for, verdict_on, reports_on, reports_due, store_after, store_on}

module _ (i : Input) where
  -- What is due by the kind of the verdict.
  pub accepted-due : is_accepted (verdict_on i) ≡ true → reports_for (fields_of i.packet).ack i.packet (done_by i.profile i.packet i.store).reports ≡ reports_on i
  unfolding reports_due
  accepted-due h = rw h refl

  pub accepted_store : is_accepted (verdict_on i) ≡ true → (done_by i.profile i.packet i.store).store ≡ store_on i
  unfolding store_on store_after
  accepted_store h = rw h refl

  pub refused_store : is_accepted (verdict_on i) ≡ false → i.store ≡ store_on i
  unfolding store_on store_after
  refused_store h = rw h refl

  pub silent-due : is_accepted (verdict_on i) ≡ false → silent (verdict_on i) ≡ true → [] ≡ reports_on i
  unfolding reports_due
  silent-due h s = rw (h, s) refl

  pub refused-due : is_accepted (verdict_on i) ≡ false → silent (verdict_on i) ≡ false → failed (verdict_on i) i.packet ∷ [] ≡ reports_on i
  unfolding reports_due
  refused-due h s = rw (h, s) refl

  -- A packet that gets a report has a packet ID and a sequence control.
  pub heard_four : silent (verdict_on i) ≡ false → 4 ≤ length i.packet
  heard_four s = omega (arith, (heard_facts i.profile i.state (length i.store) (length i.out) i.packet s).six)

  -- The data of an accepted packet is well formed for its task.
  pub accepted-formed : is_accepted (verdict_on i) ≡ true → FormedFor (task_of i.profile i.packet) (application_of i.packet)
  accepted-formed h =
      formed_for i.profile (asked_by (fields_of i.packet)) (application_of i.packet)
      (accepted_facts i.profile i.state (length i.store) (length i.out) i.packet h).service
