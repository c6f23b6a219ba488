-- Where a narrower profile and a wider one give the same verdict on a packet, from the same start, they give the same answer.
-- Assumes nothing.
use mathlib.Core.Path.{◌≡◌}
use mathlib.Core.Bool.{true}
use lib.ListN.{length}
use Rattle.laws.proofs.Tests.{by-test}
use Rattle.checks.specs.Verdict.{is_accepted}
use Rattle.tc.specs.Layout.{fields_of, application_of}
use Rattle.map.specs.declared.Profile.{Profile}
use Rattle.wider.specs.Wider.{wider}
use Rattle.wider.proofs.Widening.{wider_facts}
use Rattle.addressing.specs.Requested.{asked_by}
use Rattle.decide.proofs.Decided.{accepted_facts}
use Rattle.terminal.specs.Outcome.{done_by, reports_due, store_after, verdict_on, reports_on, frames_due, outcome_of, out_after, store_on}
use Rattle.terminal.specs.Run.{Machine, Step, input_for}
use Rattle.demands.specs.Terminal.{reference}
use Rattle.demands.proofs.Widened.{done_same}

module _ (wide narrow : Profile) (m : Machine) (s : Step) (w : wider wide narrow (length m.store) ≡ true)
    (e : verdict_on (input_for wide m s) ≡ verdict_on (input_for narrow m s)) where
  -- What an accepted packet has done.
  same_done : is_accepted (verdict_on (input_for narrow m s)) ≡ true → done_by wide s.packet m.store ≡ done_by narrow s.packet m.store
  same_done t =
      done_same wide narrow (length m.store) (asked_by (fields_of s.packet)) (application_of s.packet) m.store w
      (accepted_facts narrow m.state (length m.store) (length s.out) s.packet t).service

  same_reports : reports_on (input_for wide m s) ≡ reports_on (input_for narrow m s)
  unfolding reports_due
  same_reports = by-test (is_accepted (verdict_on (input_for narrow m s))) (λ t. rw (e, t, same_done t)) (λ f. rw (e, f))

  same_frames : frames_due (input_for wide m s) ≡ frames_due (input_for narrow m s)
  unfolding frames_due
  same_frames = rw (same_reports, (wider_facts wide narrow (length m.store) w).pid)

  same_store : store_on (input_for wide m s) ≡ store_on (input_for narrow m s)
  unfolding store_on store_after
  same_store = by-test (is_accepted (verdict_on (input_for narrow m s))) (λ t. rw (e, t, same_done t)) (λ f. rw (e, f))

  -- The whole answer.
  pub same_answer : reference (input_for wide m s) ≡ reference (input_for narrow m s)
  unfolding outcome_of out_after
  same_answer = rw (same_frames, same_reports, same_store, e)
