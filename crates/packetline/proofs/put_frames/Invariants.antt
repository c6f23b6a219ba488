-- `packetline::put_frames`: to say what is left, from where the text has come to, is to say it all.
use Rattle.std.proofs.Common.{ℕ, ◌+◌, ◌-◌, ◌≤◌, List, length, drop}
use Rattle.tm.specs.Frame.{cut}
use Rattle.saying.specs.Text.{Says}
use Rattle.packetline.specs.Packet.{lines_of}
use Rattle.packetline.proofs.put_frames.Given as goal

abbrev pub invariant-loop-from : goal.invariant-loop-from
invariant-loop-from l =
    record {
      within : l.from ≤ length l.frames;
      room : l.to ≤ length l.text + 1;
      rest : (r : ℕ) (d : List ℕ) → Says (lines_of (cut (drop l.from l.frames))) l.to l.text r d → Says (lines_of (cut l.frames)) l.at l.initial.text r d;
    }

abbrev pub decreases-loop-from : goal.decreases-loop-from
decreases-loop-from l = length l.frames - l.from
