-- Each family of wrong judges is wrong on one record, and there is a right judge.
-- Assumes nothing.
use mathlib.Core.Path.{◌≡◌, refl, sym, ap, ◌∙◌}
use mathlib.Core.Bool.{true, false, false≢true}
use mathlib.Core.List.{List, [], ◌∷◌, ◌++◌}
use Prim.Native.Nat.{ℕ, ◌<◌, ◌≤◌}
use native.Mathlib.Omega.{arith}
use lib.ListN.{length, take, get_or}
use Rattle.characters.specs.Digits.{text_of, octets_in}
use Rattle.tm.specs.Frame.{frame_head}
use Rattle.map.specs.declared.Profile.{Profile}
use Rattle.lineunit.specs.Unit.{line_profile}
use Rattle.hexline.specs.Line.{Station}
use Rattle.hexline.specs.Whole.{first}
use Rattle.beside.specs.Beside.{is_time}
use Rattle.beside.proofs.Agreeing.{agrees-length, agrees-octet}
use Rattle.conforming.specs.Groups.{Line, Filled, groups_of}
use Rattle.conforming.specs.Conforms.{frames_for, Gives, GiveAll, GroupsConform, Conforms, packets_in}
use Rattle.conforming.specs.Verdict.{Verdict, verdict_of}
use Rattle.conforming.specs.Permitted.{Permitted, conforms, differing, refused_70, refused_71}
use Rattle.conforming.proofs.Giving.{gives_agrees}
use Rattle.conforming.proofs.Verdicts.{verdict_permitted, permitted_verdict, conforms_conforming}
use Rattle.demands.specs.Cases.{second_line}
use Rattle.demands.proofs.Computing.{all}
use Rattle.misjudging.specs.StandIns.{Judge, Right, conforming, TakesSilence, ComparesItself, PassesShort, PassesUnread, StopsAtFirst, IgnoresMore, CallsNone, NeverConforms, StartsAgain}

-- ---- right judges

-- There is one: the verdict on a record.
pub right_judge : Right verdict_of
right_judge p m lines = verdict_permitted p m lines

permitted_conforms : (p : Profile) (m : Station) (lines : List Line) (v : Verdict) → Permitted p m lines v → conforming v ≡ true
    → Conforms p m lines × (0 < packets_in (groups_of lines))
permitted_conforms p m lines v (conforms c some) h = (c, some)
permitted_conforms p m lines v (differing number tc due line at) h = absurd (false≢true h)
permitted_conforms p m lines v (refused_70 number line at) h = absurd (false≢true h)
permitted_conforms p m lines v (refused_71 e) h = absurd (false≢true h)

-- A record at the line program, from its start.
module _ (judge : Judge) (right : Right judge) (lines : List Line) where
  -- What a right judge calls conforming conforms, and has a TC.
  said_conforms : conforming (judge line_profile first lines) ≡ true → Conforms line_profile first lines × (0 < packets_in (groups_of lines))
  said_conforms h = permitted_conforms line_profile first lines (judge line_profile first lines) (right line_profile first lines) h

  -- What conforms and has a TC a right judge calls conforming.
  conforms_said : Conforms line_profile first lines → 0 < packets_in (groups_of lines) → conforming (judge line_profile first lines) ≡ true
  conforms_said c some =
      ap conforming
      (permitted_verdict line_profile first lines (judge line_profile first lines) (right line_profile first lines)
      ∙ conforms_conforming line_profile first lines c some)

-- A line that gives a frame has its length, and its octets but for the time's.
module _ (frame : List ℕ) (line : Line) (long : frame_head ≤ length frame) (g : Gives frame line) where
  as_long : length frame ≡ length (octets_in line)
  as_long = agrees-length frame (octets_in line) (gives_agrees frame line long g)

  same_octet : (k : ℕ) → is_time k ≡ false → get_or (octets_in line) k 0 ≡ get_or frame k 0
  same_octet = agrees-octet frame (octets_in line) (gives_agrees frame line long g)

-- ---- lines of the records

-- The second line of document 01's example: a TC that is refused by 2, and due one (1,2), here with a count below 256.
abbrev refused : Line
refused = text_of second_line

abbrev failure : ℕ → List ℕ
failure count =
    0x08 ∷ 0x51 ∷ 0xC0 ∷ count ∷ 0x00 ∷ 0x11 ∷ 0x00 ∷ 0x00 ∷ 0x00 ∷ 0x00 ∷ 0x00 ∷ 0x00 ∷ 0x00 ∷ 0x01 ∷ 0x02 ∷ 0x00
    ∷ 0x18 ∷ 0x5C ∷ 0xC0 ∷ 0x00 ∷ 0x00 ∷ 0x02 ∷ 0x01 ∷ 0x67 ∷ []

failure-due : frames_for line_profile first refused ≡ failure 0 ∷ []
unfolding all
failure-due = refl

-- A check of the word at 1000 hex that asks for neither (1,1) nor (1,7): due one (6,10), whose last two octets are the check value.
abbrev check : Line
check =
    text_of (0x18 ∷ 0x5C ∷ 0xC0 ∷ 0x00 ∷ 0x00 ∷ 0x0D ∷ 0x10 ∷ 0x06 ∷ 0x09 ∷ 0x00
    ∷ 0x01 ∷ 0x01 ∷ 0x00 ∷ 0x00 ∷ 0x10 ∷ 0x00 ∷ 0x00 ∷ 0x01 ∷ 0x3C ∷ 0xF5 ∷ [])

abbrev checked : List ℕ
checked =
    0x08 ∷ 0x59 ∷ 0xC0 ∷ 0x00 ∷ 0x00 ∷ 0x13 ∷ 0x00 ∷ 0x00 ∷ 0x00 ∷ 0x00 ∷ 0x00 ∷ 0x00 ∷ 0x00 ∷ 0x06 ∷ 0x0A ∷ 0x00
    ∷ 0x01 ∷ 0x01 ∷ 0x00 ∷ 0x00 ∷ 0x10 ∷ 0x00 ∷ 0x00 ∷ 0x01 ∷ 0x1D ∷ 0x0F ∷ []

checked-due : frames_for line_profile first check ≡ checked ∷ []
unfolding all
checked-due = refl

-- A line of one octet: a TC that is refused by 42, and due no frame.
abbrev short : Line
short = text_of (0x00 ∷ [])

-- ---- the three of the ledger

-- The record of a refused TC without its (1,2) shows it.
pub silence_fails : (judge : Judge) → TakesSilence judge → Right judge → ⊥
unfolding all groups_of GroupsConform GiveAll
silence_fails judge silence right = (said_conforms judge right (refused ∷ []) (silence line_profile first refused tt refl refl)).0.1.0

-- The record of a check and its (6,10) with the check value FFFF hex, where 1D0F hex is due, shows it.
pub itself_fails : (judge : Judge) → ComparesItself judge → Right judge → ⊥
unfolding all groups_of GroupsConform GiveAll
itself_fails judge itself right =
    let value : List ℕ = 0xFF ∷ 0xFF ∷ [] in
    let line : Line = text_of (take 24 checked ++ value) in
    let c = (said_conforms judge right (check ∷ line ∷ []) (itself line_profile first check checked value refl checked-due refl refl refl)).0 in
    let z : ◌≡◌ {A = ℕ} 0xFF 0x1D = same_octet checked line (omega arith) c.1.0.0 24 refl in
    omega arith

-- The record of a refused TC and a TM line of one octet is no record that a right judge calls conforming.
short_unsaid : (judge : Judge) → Right judge → conforming (judge line_profile first (refused ∷ short ∷ [])) ≡ true → ⊥
unfolding all groups_of GroupsConform GiveAll
short_unsaid judge right h =
    let c = (said_conforms judge right (refused ∷ short ∷ []) h).0 in
    let z : ◌≡◌ {A = ℕ} 24 1 = as_long (failure 0) short (omega arith) c.1.0.0 in
    omega arith

-- The record of a refused TC and a TM line of one octet shows it.
pub short_fails : (judge : Judge) → PassesShort judge → Right judge → ⊥
unfolding all
short_fails judge passes right = short_unsaid judge right (passes line_profile first refused short (failure 0) refl failure-due tt refl (omega arith))

-- The same record shows it: by its length field, which is missing and so counts as 0, that line would have 7 octets.
pub unread_fails : (judge : Judge) → PassesUnread judge → Right judge → ⊥
unfolding all
unread_fails judge passes right = short_unsaid judge right (passes line_profile first refused short (failure 0) refl failure-due tt refl (λ e. omega arith))

-- ---- others

-- The record of one TC that is due no frame a right judge calls conforming.
short_said : (judge : Judge) → Right judge → conforming (judge line_profile first (short ∷ [])) ≡ true
unfolding all groups_of GroupsConform GiveAll packets_in
short_said judge right = conforms_said judge right (short ∷ []) (refl, (tt, tt)) (omega arith)

-- The record of a TC that is due no frame, an empty line and a refused TC without its (1,2) shows it.
pub stops_fails : (judge : Judge) → StopsAtFirst judge → Right judge → ⊥
unfolding all groups_of GroupsConform GiveAll
stops_fails judge stops right =
    let same : judge line_profile first (short ∷ [] ∷ refused ∷ []) ≡ judge line_profile first (short ∷ []) =
    stops line_profile first short [] (refused ∷ []) (tt, tt) in
    (said_conforms judge right (short ∷ [] ∷ refused ∷ []) (ap conforming same ∙ short_said judge right)).0.1.1.1.0

-- The record of a TC that is due no frame, and a TM line, shows it.
pub more_fails : (judge : Judge) → IgnoresMore judge → Right judge → ⊥
unfolding all groups_of GroupsConform GiveAll
more_fails judge more right =
    let some : Filled short = tt in
    (said_conforms judge right (short ∷ short ∷ []) (more line_profile first [] short short some (short_said judge right) some refl)).0.1.0

-- The record without lines shows it.
pub none_fails : (judge : Judge) → CallsNone judge → Right judge → ⊥
unfolding groups_of packets_in
none_fails judge none right = omega (arith, (said_conforms judge right [] (none line_profile first)).1)

-- The record of one TC that is due no frame shows it.
pub never_fails : (judge : Judge) → NeverConforms judge → Right judge → ⊥
never_fails judge never right = false≢true (sym (never line_profile first (short ∷ [])) ∙ short_said judge right)

-- The record of a refused TC and its (1,2) with count 0, twice, shows it: at the second count 1 is due.
pub again_fails : (judge : Judge) → StartsAgain judge → Right judge → ⊥
unfolding all groups_of GroupsConform GiveAll packets_in
again_fails judge again right =
    let line : Line = text_of (failure 0) in
    let group : List Line = refused ∷ line ∷ [] in
    let gives : Gives (failure 0) line = record { digits = refl; time = 0 ∷ 0 ∷ 0 ∷ 0 ∷ 0 ∷ 0 ∷ []; six = refl; octets = refl } in
    let once : conforming (judge line_profile first group) ≡ true = conforms_said judge right group (refl, ((gives, tt), tt)) (omega arith) in
    let twice = again line_profile first group (tt, (tt, tt)) once in
    let c = (said_conforms judge right (group ++ ([] ∷ group)) twice).0 in
    let z : ◌≡◌ {A = ℕ} 0 1 = same_octet (failure 1) line (omega arith) c.1.1.1.0.0 3 refl in
    omega arith
