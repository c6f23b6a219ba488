-- Document 02, wish 7: the verdict on a record.
use Rattle.std.specs.Prelude.{List, [], ◌∷◌, ℕ, zero, suc, ◌+◌}
use Rattle.map.specs.declared.Profile.{Profile}
use Rattle.hexline.specs.Line.{Station}
use Rattle.conforming.specs.Groups.{Line}
use Rattle.conforming.specs.Findings.{Finding, blank, packet, frame, bad, differs, findings_of}

-- A verdict: conforming, with so many packets and frames; differing at a line, with the line of its TC, the frame due and the line found; refused by 70 at a line, or by 71.
pub data Verdict : Type 0 where
  Conforming : (packets frames : ℕ) → Verdict
  Differs : (number tc : ℕ) (due : List ℕ) (line : Line) → Verdict
  Refused70 : (number : ℕ) (line : Line) → Verdict
  Refused71 : Verdict

-- Behind the last line: there were so many packets and frames, and none differs.
abbrev pub concluded : ℕ → ℕ → Verdict
concluded zero frames = Refused71
concluded (suc packets) frames = Conforming (suc packets) frames

-- The first line that differs or is no packet line decides; the lines are numbered from n on, and behind so many packets and frames.
unfoldable pub ruled_from : ℕ → ℕ → ℕ → List Finding → Verdict
ruled_from n packets frames [] = concluded packets frames
ruled_from n packets frames (blank ∷ rest) = ruled_from (n + 1) packets frames rest
ruled_from n packets frames (packet ∷ rest) = ruled_from (n + 1) (packets + 1) frames rest
ruled_from n packets frames (frame ∷ rest) = ruled_from (n + 1) packets (frames + 1) rest
ruled_from n packets frames (bad line ∷ rest) = Refused70 n line
ruled_from n packets frames (differs tc due line ∷ rest) = Differs n tc due line

-- The verdict on a record's lines.
abbrev pub verdict_of : Profile → Station → List Line → Verdict
verdict_of p m lines = ruled_from 1 0 0 (findings_of p m lines)
