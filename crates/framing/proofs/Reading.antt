-- Every frame due reads back as its own stamp and contents.
-- Assumes nothing.
use mathlib.Core.Path.{◌≡◌, sym, subst}
use mathlib.Core.Bool.{true}
use mathlib.Core.List.{List, [], ◌∷◌, map}
use Prim.Native.Nat.{ℕ, ◌<◌}
use native.Mathlib.Omega.{arith}
use lib.ListN.{length}
use Rattle.laws.specs.Each.{Each}
use Rattle.laws.proofs.Tests.{by-test}
use Rattle.checks.specs.Verdict.{silent}
use Rattle.counts.specs.declared.Counts.{Counts}
use Rattle.counts.specs.Counts.{in_range, count_for, counted}
use Rattle.counts.proofs.Counting.{counted_in_range, count_small}
use Rattle.tm.specs.Frame.{Report, time_of, frames_of}
use Rattle.tm.proofs.Frames.{frames-none, frames_next, stamped_is}
use Rattle.map.proofs.Soundness.{sound_facts}
use Rattle.contents.specs.Kinds.{type_of}
use Rattle.contents.specs.Told.{Told, kind_told, report_of, Fits}
use Rattle.tmreader.specs.Reader.{reading_of}
use Rattle.tmreader.specs.Telling.{stamp_for, ReadsAs}
use Rattle.tmreader.proofs.RoundTrip.{frame_reads}
use Rattle.decide.proofs.Decided.{heard_facts}
use Rattle.terminal.specs.Outcome.{Input, verdict_on, reports_on, frames_due}
use Rattle.framing.specs.Framing.{InOctets}
use Rattle.framing.specs.Reading.{told_on, ReadBack, DueRead}
use Rattle.framing.proofs.Telling.{Tells, told-due, quiet_told}

module _ (pid : ℕ) (w : List ℕ) (small : pid < 128) where
  -- The frames of what has room in them read back, from counts of 14 bits on.
  frames_read : (c : Counts) (ts : List Told) → in_range c ≡ true → Each Fits ts → ReadBack reading_of pid (time_of w) c ts (frames_of pid (time_of w) c (map report_of ts))
  unfolding ReadBack
  frames_read c [] r h = subst (ReadBack reading_of pid (time_of w) c []) (sym (frames-none pid (time_of w) c)) tt
  frames_read c (t ∷ ts) r h =
      let kind : ℕ = type_of (kind_told t) in
      let read : ReadsAs reading_of (stamp_for pid (count_for c kind) (time_of w) t) t _ = frame_reads pid (count_for c kind) w t small (count_small c kind r) h.0 in
      subst (ReadBack reading_of pid (time_of w) c (t ∷ ts)) (sym (frames_next pid (time_of w) c (report_of t) (map report_of ts))) (
        subst (ReadsAs reading_of (stamp_for pid (count_for c kind) (time_of w) t) t) (sym (stamped_is pid (time_of w) c (report_of t))) read,
        frames_read (counted c kind) ts (counted_in_range c kind r) h.1,
      )

-- Where nothing is told, no frame is there to read.
nothing_read : (pid : ℕ) (time : List ℕ) (c : Counts) (ts : List Told) → ts ≡ [] → ReadBack reading_of pid time c ts (frames_of pid time c (map report_of ts))
unfolding ReadBack
nothing_read pid time c ts none =
    subst (λ (us : List Told). ReadBack reading_of pid time c us (frames_of pid time c (map report_of us))) (sym none)
    (subst (ReadBack reading_of pid time c []) (sym (frames-none pid time c)) tt)

-- Whatever is handed in: each frame that the terminal writes reads cleanly, as its own stamp and contents. Ruled out: a terminal whose (6,10) gives one block fewer than its N says, one that stamps a (17,2) with category 1, one that lays the detail before the code, and a reader that refuses every frame.
pub due_read : (i : Input) → InOctets i → DueRead reading_of i (frames_due i)
unfolding frames_due
due_read i h =
    let time : List ℕ = time_of i.time in
    let pid : ℕ = i.profile.pid in
    let c : Counts = i.state.counts in
    let tells : Tells (told_on i) (reports_on i) = told-due i h in
    subst (λ (rs : List Report). ReadBack reading_of pid time c (told_on i) (frames_of pid time c rs)) tells.reports
    (by-test (silent (verdict_on i))
    (λ quiet. nothing_read pid time c (told_on i) (quiet_told i quiet))
    (λ heard.
    let facts = heard_facts i.profile i.state (length i.store) (length i.out) i.packet heard in
    frames_read pid i.time (omega (arith, (sound_facts i.profile (length i.store) facts.caller.sound).pid)) c (told_on i) facts.caller.counts tells.fit))
