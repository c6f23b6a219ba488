-- What a refusal gives: nothing at all, or one (1,2).
-- Assumes nothing.
use mathlib.Core.Path.{◌≡◌, refl, sym, ap, ◌∙◌}
use mathlib.Core.Bool.{true, false}
use mathlib.Core.List.{[], ◌∷◌, ◌++◌}
use Prim.Native.Nat.{ℕ}
use native.Mathlib.Omega.{arith}
use lib.ListN.{length, drop, length-append}
use lib.Seq.{length-take-le}
use Rattle.laws.specs.Fold.{joined}
use Rattle.octets.proofs.Laid.{laid_none}
use Rattle.checks.specs.Verdict.{is_accepted, number_of, detail_of, silent}
use Rattle.checks.proofs.Numbers.{silent_refuses}
use Rattle.counts.specs.Counts.{next_count}
use Rattle.tm.specs.Frame.{time_of, stamped, frames_of, counts_after}
use Rattle.reports.specs.Source.{echo_of, failure}
use Rattle.counts.proofs.Counting.{counted_report}
use Rattle.tm.proofs.Frames.{octets_in, frames_size}
use Rattle.terminal.specs.Act.{refusal_size}
use Rattle.laying.specs.Reports.{failed}
use Rattle.terminal.specs.Outcome.{Input, verdict_on, reports_on, frames_due, octets_due, outcome_of, out_after}
use Rattle.terminal.proofs.Answering.{silent-due, refused-due, heard_four}
use Rattle.terminal.proofs.Due.{out_front}

module _ (i : Input) where
  -- ---- no frame

  module _ (s : silent (verdict_on i) ≡ true) where
    no_report : reports_on i ≡ []
    no_report = sym (silent-due i (silent_refuses (verdict_on i) s) s)

    -- No frame is due.
    pub no_frame : frames_due i ≡ []
    unfolding frames_due frames_of
    no_frame = rw no_report

    -- Nor any octet.
    pub no_octets : octets_due i ≡ []
    unfolding joined
    no_octets = ap joined no_frame

    -- The counts stay.
    pub same_state : (outcome_of i).state ≡ i.state
    unfolding outcome_of counts_after
    same_state = rw no_report

    -- So does the output buffer.
    pub same_buffer : out_after i ≡ i.out
    unfolding out_after
    same_buffer = rw no_octets (laid_none i.out 0)

  -- ---- one frame

  module _ (r : is_accepted (verdict_on i) ≡ false) (s : silent (verdict_on i) ≡ false) where
    one_report : reports_on i ≡ failed (verdict_on i) i.packet ∷ []
    one_report = sym (refused-due i r s)

    -- One frame is due, the (1,2).
    pub one_frame : frames_due i ≡ stamped i.profile.pid (time_of i.time) i.state.counts (failed (verdict_on i) i.packet) ∷ []
    unfolding frames_due frames_of
    one_frame = rw one_report

    -- The count of category 1 advances, and that of category 9 stays.
    pub one_count : (outcome_of i).state.counts ≡ record { reports = next_count i.state.counts.reports; services = i.state.counts.services }
    unfolding outcome_of counts_after
    one_count = rw one_report (counted_report i.state.counts)

    -- It has 24 octets.
    pub frame_octets : length (octets_due i) ≡ refusal_size
    unfolding frames_due
    frame_octets =
        frames_size i.profile.pid (time_of i.time) i.state.counts (reports_on i) refl
        ∙ ap octets_in one_report
        ∙ omega (
          arith,
          length-append (echo_of i.packet) (failure (number_of (verdict_on i)) (detail_of (verdict_on i))),
          length-take-le 4 i.packet (heard_four i s),
        )

    -- It stands at the front of the output buffer, whose other octets stay.
    pub frame_first : out_after i ≡ octets_due i ++ drop refusal_size i.out
    frame_first = out_front i ∙ ap (λ (n : ℕ). octets_due i ++ drop n i.out) frame_octets
