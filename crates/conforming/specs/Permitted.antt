-- Document 02, wish 7: which verdict is permitted on a record, each by what it says of the record.
use Rattle.std.specs.Prelude.{◌≡◌, Bool, true, false, List, [], ◌∷◌, ◌++◌, ℕ, ◌+◌, ◌<◌, length}
use Rattle.laws.specs.Each.{Each, every}
use Rattle.map.specs.declared.Profile.{Profile}
use Rattle.hexline.specs.Line.{Station}
use Rattle.conforming.specs.Groups.{Line, groups_of}
use Rattle.conforming.specs.Conforms.{Conforms, packets_in, frames_in}
use Rattle.conforming.specs.Findings.{Finding, blank, packet, frame, bad, differs, findings_of}
use Rattle.conforming.specs.Verdict.{Verdict, Conforming, Differs, Refused70, Refused71}

-- A line that agrees: an empty one in its place, a TC, or a TM line that gives the frame due.
abbrev pub passes : Finding → Bool
passes blank = true
passes packet = true
passes frame = true
passes (bad line) = false
passes (differs tc due line) = false

-- The first line that does not agree has a number: every line before it agrees.
pub record FirstAt (number : ℕ) (found : Finding) (all : List Finding) : Type 0 where
  pub before : List Finding
  pub after : List Finding
  pub all_is : all ≡ before ++ (found ∷ after)
  pub agree : every passes before ≡ true
  pub number_is : number ≡ length before + 1

-- Conforming is a record of at least one TC that conforms; differing is the first line that does not agree, where it is a packet line or an empty one, and refused by 70 where it is neither; refused by 71 is a record of which every line is empty.
pub data Permitted (p : Profile) (m : Station) (lines : List Line) : Verdict → Type 0 where
  conforms : Conforms p m lines → 0 < packets_in (groups_of lines)
      → Permitted p m lines (Conforming (packets_in (groups_of lines)) (frames_in (groups_of lines)))
  differing : (number tc : ℕ) (due : List ℕ) (line : Line) → FirstAt number (differs tc due line) (findings_of p m lines)
      → Permitted p m lines (Differs number tc due line)
  refused_70 : (number : ℕ) (line : Line) → FirstAt number (bad line) (findings_of p m lines) → Permitted p m lines (Refused70 number line)
  refused_71 : Each (λ (line : Line). line ≡ []) lines → Permitted p m lines Refused71
