-- docs/JUDGE.md: what `judge` may print for a unit file and a record, each answer by what it says of the two.
use Rattle.std.specs.Prelude.{◌≡◌, Some, Bool, true, false, ◌&&◌, List, [], ◌∷◌, ◌++◌, ℕ, ◌<◌, take, Err}
use Rattle.lines.specs.Lines.{newline, lines_of}
use Rattle.words.specs.Ascii.{ascii}
use Rattle.map.specs.declared.Profile.{Profile}
use Rattle.stating.specs.declared.fault.Fault.{Fault}
use Rattle.packline.specs.declared.Halt.TheVariants.{Unit}
use Rattle.map.specs.Sound.{store_allowed, sound}
use Rattle.clauses.specs.declared.Clause.{Clause}
use Rattle.clauses.specs.Clauses.{clause_of}
use Rattle.hexline.specs.Line.{Station}
use Rattle.telling.specs.Telling.{unit_line, unsound_line}
use Rattle.clausewords.specs.Clausewords.{clause_line}
use Rattle.conforming.specs.Groups.{groups_of}
use Rattle.conforming.specs.Conforms.{Conforms, packets_in}
use Rattle.conforming.specs.Verdict.{Verdict}
use Rattle.conforming.specs.Permitted.{Permitted}
use Rattle.desk.specs.declared.Desk.{Desk}
use Rattle.desk.specs.Place.{station_at, is_halted}
use Rattle.feeding.specs.Output.{unit_of, unit_behind, pack_first}
use Rattle.judging.specs.Output.{verdict_text}

-- The profile that a unit file states, and where the reference starts: counts of 0, and the store as the file has it.
abbrev pub unit_profile : List ℕ → Profile
unit_profile file = (unit_of file).draft.profile

abbrev pub unit_station : List ℕ → Station
unit_station file = station_at (pack_first (unit_of file) (unit_behind file).store)

-- Document 01's refusal 41, of a unit: its store may be lent, and its profile is sound over it.
abbrev pub is_fit : Desk → Bool
is_fit unit = store_allowed unit.draft.stored && sound unit.draft.profile unit.draft.stored

-- What may be printed: the first bad line of the unit file; `refused 41` and a clause, whatever the record, just where the unit is not fit; and else a verdict that is permitted on the record's lines.
pub data Printed (file text : List ℕ) : List ℕ → Type 0 where
  bad_file : (fault : Fault) → (unit_of file).halt ≡ Some (Unit fault) → Printed file text (unit_line (unit_of file).number fault)
  refused_41 : is_halted (unit_of file) ≡ false → is_fit (unit_of file) ≡ false → (clause : Clause) → clause_of (unit_of file).draft.profile (unit_of file).draft.stored ≡ Err clause
      → Printed file text (unsound_line ++ clause_line clause)
  judged : is_halted (unit_of file) ≡ false → is_fit (unit_of file) ≡ true → (v : Verdict) → Permitted (unit_profile file) (unit_station file) (lines_of text) v
      → Printed file text (verdict_text v)

-- A record conforms under a unit file: the file states a unit that is fit, and the record has a TC and conforms from that unit's start on.
pub record ConformsUnder (file text : List ℕ) : Type 0 where
  pub stated : is_halted (unit_of file) ≡ false
  pub fit : is_fit (unit_of file) ≡ true
  pub some : 0 < packets_in (groups_of (lines_of text))
  pub conforms : Conforms (unit_profile file) (unit_station file) (lines_of text)

-- The first line of what is printed is `conforming`.
abbrev pub conforming_line : List ℕ
conforming_line = ascii "conforming" ++ newline ∷ []

abbrev pub SaysConforming : List ℕ → Type 0
SaysConforming out = take 11 out ≡ conforming_line
