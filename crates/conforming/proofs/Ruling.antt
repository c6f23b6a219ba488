-- How findings are ruled: the first that does not pass decides, and where all pass the packets and frames are counted.
-- Assumes nothing.
use mathlib.Core.Path.{◌≡◌, refl, ap, ap₂, ◌∙◌}
use mathlib.Core.Bool.{true, false, false≢true}
use mathlib.Core.List.{List, [], ◌∷◌, ◌++◌}
use Prim.Native.Nat.{ℕ, ◌+◌}
use native.Mathlib.Omega.{arith}
use lib.ListN.{length}
use Rattle.laws.specs.Each.{Each, every}
use Rattle.map.specs.declared.Profile.{Profile}
use Rattle.hexline.specs.Line.{Station}
use Rattle.conforming.specs.Groups.{Line, Group, Filled}
use Rattle.conforming.specs.Conforms.{frames_for, after_tc, GiveAll, GroupsConform, packets_in, frames_in}
use Rattle.conforming.specs.Findings.{Finding, blank, packet, frame, bad, differs, beside_all, findings_from}
use Rattle.conforming.specs.Verdict.{Verdict, Differs, Refused70, concluded, ruled_from}
use Rattle.conforming.specs.Permitted.{passes, FirstAt}
use Rattle.conforming.proofs.Passing.{Long, found_frame, found_end, frames-long, passes_conforms}

-- ---- the first that does not pass

-- Findings that pass are passed over, and what stands behind them decides by its number.
pub ruled_behind : (before rest : List Finding) (ruling : ℕ → Verdict) (n packets frames : ℕ) → every passes before ≡ true
    → ((k ps fs : ℕ) → ruled_from k ps fs rest ≡ ruling k) → ruled_from n packets frames (before ++ rest) ≡ ruling (n + length before)
unfolding every ruled_from
ruled_behind [] rest ruling n ps fs h r = r n ps fs ∙ ap ruling (omega arith)
ruled_behind (blank ∷ before) rest ruling n ps fs h r = ruled_behind before rest ruling (n + 1) ps fs h r ∙ ap ruling (omega arith)
ruled_behind (packet ∷ before) rest ruling n ps fs h r = ruled_behind before rest ruling (n + 1) (ps + 1) fs h r ∙ ap ruling (omega arith)
ruled_behind (frame ∷ before) rest ruling n ps fs h r = ruled_behind before rest ruling (n + 1) ps (fs + 1) h r ∙ ap ruling (omega arith)
ruled_behind (bad line ∷ before) rest ruling n ps fs h r = absurd (false≢true h)
ruled_behind (differs tc due line ∷ before) rest ruling n ps fs h r = absurd (false≢true h)

-- So the first line that differs is the verdict, with its number.
pub differs_ruled : (before after : List Finding) (tc : ℕ) (due : List ℕ) (line : Line) (n packets frames : ℕ) → every passes before ≡ true
    → ruled_from n packets frames (before ++ (differs tc due line ∷ after)) ≡ Differs (n + length before) tc due line
unfolding ruled_from
differs_ruled before after tc due line n ps fs h =
    ruled_behind before (differs tc due line ∷ after) (λ (k : ℕ). Differs k tc due line) n ps fs h (λ k qs gs. refl)

-- And so is the first that is no packet line.
pub bad_ruled : (before after : List Finding) (line : Line) (n packets frames : ℕ) → every passes before ≡ true
    → ruled_from n packets frames (before ++ (bad line ∷ after)) ≡ Refused70 (n + length before) line
unfolding ruled_from
bad_ruled before after line n ps fs h =
    ruled_behind before (bad line ∷ after) (λ (k : ℕ). Refused70 k line) n ps fs h (λ k qs gs. refl)

-- Every finding passes, or there is a first that does not.
pub data Fault (all : List Finding) : Type 0 where
  none : every passes all ≡ true → Fault all
  first : (number : ℕ) (found : Finding) → FirstAt number found all → passes found ≡ false → Fault all

fault_behind : (x : Finding) (rest : List Finding) → passes x ≡ true → Fault rest → Fault (x ∷ rest)
unfolding every
fault_behind x rest t (none h) = none (rw t h)
fault_behind x rest t (first number found at wrong) =
    first (number + 1) found
    (record {
      before = x ∷ at.before;
      after = at.after;
      all_is = ap (λ (r : List Finding). x ∷ r) at.all_is;
      agree = rw t at.agree;
      number_is = omega (arith, at.number_is);
    })
    wrong

fault_here : (x : Finding) (rest : List Finding) → passes x ≡ false → Fault (x ∷ rest)
unfolding every
fault_here x rest w = first 1 x (record { before = []; after = rest; all_is = refl; agree = refl; number_is = refl }) w

pub fault_of : (all : List Finding) → Fault all
unfolding every
fault_of [] = none refl
fault_of (blank ∷ rest) = fault_behind blank rest refl (fault_of rest)
fault_of (packet ∷ rest) = fault_behind packet rest refl (fault_of rest)
fault_of (frame ∷ rest) = fault_behind frame rest refl (fault_of rest)
fault_of (bad line ∷ rest) = fault_here (bad line) rest refl
fault_of (differs tc due line ∷ rest) = fault_here (differs tc due line) rest refl

-- ---- packets and frames counted

-- Lines that give the frames due are counted as frames.
give_counts : (tc : ℕ) (frames : List (List ℕ)) (lines : List Line) (rest : List Finding) (v : Verdict) (n ps fs gs : ℕ) → Long frames → GiveAll frames lines
    → gs ≡ fs + length lines → ((k : ℕ) → ruled_from k ps gs rest ≡ v) → ruled_from n ps fs (beside_all tc frames lines ++ rest) ≡ v
unfolding ruled_from beside_all GiveAll
give_counts tc [] [] rest v n ps fs gs long g e h =
    let same : fs ≡ gs = omega arith in
    rw (found_end tc) (ap (λ (x : ℕ). ruled_from (n + 1) ps x rest) same ∙ h (n + 1))
give_counts tc [] (line ∷ lines) rest v n ps fs gs long g e h = absurd g
give_counts tc (f ∷ frames) [] rest v n ps fs gs long g e h = absurd g
give_counts tc (f ∷ frames) (line ∷ lines) rest v n ps fs gs long g e h =
    rw (found_frame tc f frames line long.0 g.0) (give_counts tc frames lines rest v (n + 1) ps (fs + 1) gs long.1 g.1 (omega arith) h)

counts-from : (p : Profile) (m : Station) (k : ℕ) (groups : List Group) (n ps fs qs gs : ℕ) → GroupsConform p m groups
    → qs ≡ ps + packets_in groups → gs ≡ fs + frames_in groups → ruled_from n ps fs (findings_from p m k groups) ≡ concluded qs gs
unfolding ruled_from GroupsConform findings_from packets_in frames_in
counts-from p m k [] n ps fs qs gs c e f =
    let packets : ps ≡ qs = omega arith in
    let frames : fs ≡ gs = omega arith in
    ap₂ concluded packets frames
counts-from p m k ([] ∷ rest) n ps fs qs gs c e f = counts-from p m (k + 1) rest (n + 1) ps fs qs gs c e f
counts-from p m k ((tc ∷ tms) ∷ rest) n ps fs qs gs c e f =
    rw c.0
    (give_counts k (frames_for p m tc) tms (findings_from p (after_tc p m tc) (k + length tms + 2) rest) (concluded qs gs)
    (n + 1) (ps + 1) fs (fs + length tms) (frames-long p m tc) c.1.0 refl
    (λ j. counts-from p (after_tc p m tc) (k + length tms + 2) rest j (ps + 1) (fs + length tms) qs gs c.1.1 (omega arith) (omega arith)))

module _ (p : Profile) (m : Station) (k : ℕ) (groups : List Group) (n packets frames : ℕ) where
  -- Of groups that conform the packets and TM lines are counted.
  pub conforms_counts : GroupsConform p m groups
      → ruled_from n packets frames (findings_from p m k groups) ≡ concluded (packets + packets_in groups) (frames + frames_in groups)
  conforms_counts c = counts-from p m k groups n packets frames (packets + packets_in groups) (frames + frames_in groups) c refl refl

  -- And so of groups without empty lines of which every line passes.
  pub passes-counts : Each (λ (g : Group). Each Filled g) groups → every passes (findings_from p m k groups) ≡ true
      → ruled_from n packets frames (findings_from p m k groups) ≡ concluded (packets + packets_in groups) (frames + frames_in groups)
  passes-counts filled h = conforms_counts (passes_conforms p m k groups filled h)
