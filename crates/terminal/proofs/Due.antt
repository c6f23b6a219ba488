-- How many octets are due at most, and where they stand in the output buffer.
-- Assumes nothing.
use mathlib.Core.Path.{◌≡◌, refl, sym, ap, subst, ◌∙◌}
use mathlib.Core.Bool.{true}
use mathlib.Core.List.{List, ◌++◌, map}
use Prim.Native.Nat.{ℕ, ◌≤◌}
use native.Mathlib.Nat.{zero-add}
use native.Mathlib.Omega.{arith}
use lib.ListN.{length, take, drop}
use Rattle.laws.specs.Each.{Each}
use Rattle.laws.specs.Fold.{joined}
use Rattle.laws.proofs.Tests.{by-test}
use Rattle.octets.proofs.Laid.{laid-eq, laid-length, laid_front}
use Rattle.checks.specs.Verdict.{is_accepted, silent}
use Rattle.checks.proofs.Numbers.{silent_refuses}
use Rattle.tc.specs.Layout.{application_of, fields_of}
use Rattle.blocks.specs.Blocks.{first_place, memory_id, block_count, blocks_of}
use Rattle.blocks.proofs.Blocks.{blocks_length}
use Rattle.blocks.proofs.WellFormed.{head_facts, right_bounds}
use Rattle.tm.specs.Frame.{Report, frame_head, time_of, timed, frames_of, cut}
use Rattle.tm.proofs.Frame.{time_six}
use Rattle.tm.proofs.Frames.{octets_in, frames_size, size_append, cut-frames, frames-long, frames-timed}
use Rattle.requests.specs.declared.Action.TheVariants.{Load, Dump, Check}
use Rattle.serving.specs.declared.Task.{Task}
use Rattle.serving.specs.declared.Task.TheVariants.{Idle, Memory, Connection}
use Rattle.requests.specs.Request.{carried_by, most_words}
use Rattle.decide.specs.Table.{task_of}
use Rattle.serving.specs.Services.{FormedFor, Formed}
use Rattle.decide.proofs.Decided.{heard_facts}
use Rattle.laying.specs.Reports.{echo, asked, asks_acceptance, asks_completion}
use Rattle.terminal.specs.Done.{memory_done, done}
use Rattle.terminal.specs.Outcome.{Input, done_by, reports_for, verdict_on, reports_on, frames_due, octets_due, outcome_of, out_after, answer_most}
use Rattle.terminal.specs.Act.{service_most}
use Rattle.terminal.proofs.Sizes.{echo_most, failed_most, dumps_most, checked_most}
use Rattle.terminal.proofs.Answering.{accepted-due, accepted-formed, refused-due, silent-due}

-- A service's reports on well formed data are at most 4,032 octets.
service_most_lem : (t : Task) (d store : List ℕ) → FormedFor t d → octets_in (done t d store).reports ≤ service_most
service_most_lem Idle d store formed = omega arith
service_most_lem Connection d store formed = omega arith
service_most_lem (Memory job) d store formed = memory_most job.action formed
  where
    memory_most : (action : Rattle.requests.specs.declared.Action.Action) → Formed action d → octets_in (memory_done job.area action d store).reports ≤ service_most
    memory_most Load f = omega arith
    memory_most Dump f =
        omega (
          arith,
          dumps_most job.area (memory_id d) store (length d) (blocks_of (carried_by Dump) d) (right_bounds (carried_by Dump) (most_words Dump) d f.1),
          (head_facts d f.0).few,
          blocks_length (carried_by Dump) d (block_count d) first_place,
        )
    memory_most Check f = checked_most job.area d store (head_facts d f.0).few

module _ (i : Input) where
  -- The reports due on an accepted packet are at most 4,072 octets.
  accepted_most : is_accepted (verdict_on i) ≡ true → octets_in (reports_on i) ≤ answer_most
  unfolding reports_for
  accepted_most h =
      let p = i.packet in
      let ack : ℕ = (fields_of p).ack in
      let first : List Report = asked (asks_acceptance ack) (echo 1 p) in
      let middle : List Report = (done_by i.profile p i.store).reports in
      let last : List Report = asked (asks_completion ack) (echo 7 p) in
      let small : octets_in (first ++ (middle ++ last)) ≤ answer_most =
      omega (
        arith,
        size_append first (middle ++ last),
        size_append middle last,
        echo_most (asks_acceptance ack) 1 p,
        service_most_lem (task_of i.profile p) (application_of p) i.store (accepted-formed i h),
        echo_most (asks_completion ack) 7 p,
      ) in
      subst (λ (rs : List Report). octets_in rs ≤ answer_most) (accepted-due i h) small

  reports_most : octets_in (reports_on i) ≤ answer_most
  reports_most =
      by-test (is_accepted (verdict_on i))
      accepted_most
      (λ r.
      by-test (silent (verdict_on i))
      (λ s. subst (λ (rs : List Report). octets_in rs ≤ answer_most) (silent-due i r s) (omega arith))
      (λ h. subst (λ (rs : List Report). octets_in rs ≤ answer_most) (refused-due i r h) (omega (arith, failed_most (verdict_on i) i.packet))))

  -- No packet is answered with more than 4,072 octets.
  pub due_bounded : length (octets_due i) ≤ answer_most
  unfolding frames_due
  due_bounded = omega (arith, frames_size i.profile.pid (time_of i.time) i.state.counts (reports_on i) refl, reports_most)

  -- Nor with more than its output buffer has room for.
  pub due_fits : length (octets_due i) ≤ length i.out
  unfolding frames_due frames_of joined
  due_fits =
      by-test (silent (verdict_on i))
      (λ s. omega (arith, ap (λ (rs : List Report). length (joined (frames_of i.profile.pid (time_of i.time) i.state.counts rs))) (sym (silent-due i (silent_refuses (verdict_on i) s) s))))
      (λ h. omega (arith, due_bounded, (heard_facts i.profile i.state (length i.store) (length i.out) i.packet h).out))

  -- They fill the front of the output buffer, and octets beyond keep their value.
  pub out_front : out_after i ≡ octets_due i ++ drop (length (octets_due i)) i.out
  unfolding out_after
  out_front =
      laid-eq i.out 0 (octets_due i) (omega (arith, due_fits))
      ∙ ap (λ (n : ℕ). octets_due i ++ drop n i.out) (zero-add (length (octets_due i)))

  -- The buffer keeps its length, and what is due is what it begins with.
  pub out_length : length (out_after i) ≡ length i.out
  unfolding out_after
  out_length = laid-length i.out 0 (octets_due i)

  pub front_due : take (length (octets_due i)) (out_after i) ≡ octets_due i
  unfolding out_after
  front_due = laid_front i.out (octets_due i) due_fits

  -- The octets due are cut into the frames due.
  pub due-cut : cut (octets_due i) ≡ frames_due i
  unfolding frames_due
  due-cut = cut-frames i.profile.pid (time_of i.time) i.state.counts (reports_on i) refl due_bounded

  -- The outcome's parts.
  pub verdict_due : (outcome_of i).verdict ≡ verdict_on i
  unfolding outcome_of
  verdict_due = refl

  pub written_due : (outcome_of i).written ≡ length (octets_due i)
  unfolding outcome_of
  written_due = refl

  -- Each frame has its head.
  pub due-long : Each (λ (frame : List ℕ). frame_head ≤ length frame) (frames_due i)
  unfolding frames_due
  due-long = frames-long i.profile.pid (time_of i.time) refl i.state.counts (reports_on i)

-- The frames due at another time are the frames due, each with that time.
pub due-timed : (i : Input) (time : List ℕ) → length time ≡ 6
    → frames_due (record { profile = i.profile; state = i.state; time = time; packet = i.packet; store = i.store; out = i.out }) ≡ map (timed time) (frames_due i)
unfolding frames_due
due-timed i time six =
    ap (λ (t : List ℕ). frames_of i.profile.pid t i.state.counts (reports_on i)) (time_six time six)
    ∙ sym (frames-timed i.profile.pid (time_of i.time) refl time i.state.counts (reports_on i))
