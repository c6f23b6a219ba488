-- Groups conform just where every line of theirs is found to agree.
-- Assumes nothing.
use mathlib.Core.Path.{◌≡◌, refl, sym, ◌∙◌}
use mathlib.Core.Bool.{Bool, true, false≢true}
use mathlib.Core.List.{List, [], ◌∷◌, ◌++◌}
use Prim.Native.Nat.{ℕ, ◌+◌, ◌≤◌}
use lib.ListN.{length}
use Rattle.laws.specs.Each.{Each, every}
use Rattle.laws.proofs.Tests.{by-test, both}
use Rattle.characters.specs.Digits.{octets_in}
use Rattle.tm.specs.Frame.{frame_head}
use Rattle.packetline.specs.Packet.{is_packet}
use Rattle.map.specs.declared.Profile.{Profile}
use Rattle.terminal.proofs.Due.{due-long}
use Rattle.hexline.specs.Line.{Station, packet_input}
use Rattle.beside.specs.Beside.{agrees}
use Rattle.conforming.specs.Groups.{Line, Group, Filled, ahead, groups_of}
use Rattle.conforming.specs.Conforms.{frames_for, after_tc, Gives, GiveAll, GroupsConform}
use Rattle.conforming.specs.Findings.{Finding, blank, frame, first_of, finding_of, finding_tc, beside_all, findings_from}
use Rattle.conforming.specs.Permitted.{passes}
use Rattle.conforming.proofs.Giving.{gives_agrees, agrees_gives, empty_packet, none_agree, empty-parts, empty_gives_none, more_parts}

-- ---- lines that are not empty

-- Frames that have their heads.
abbrev pub Long : List (List ℕ) → Type 0
Long frames = Each (λ (f : List ℕ). frame_head ≤ length f) frames

ahead_each : (P : Line → Type 0) (line : Line) (groups : List Group) → (Filled line → P line) → Each (λ (g : Group). Each P g) groups
    → Each (λ (g : Group). Each P g) (ahead line groups)
ahead_each P [] groups h more = (tt, more)
ahead_each P (c ∷ line) [] h more = ((h tt, tt), tt)
ahead_each P (c ∷ line) (g ∷ rest) h more = ((h tt, more.0), more.1)

-- What each line of a record that is not empty has, each line of its groups has.
pub groups_each : (P : Line → Type 0) (lines : List Line) → Each (λ (line : Line). Filled line → P line) lines → Each (λ (g : Group). Each P g) (groups_of lines)
unfolding groups_of
groups_each P [] h = (tt, tt)
groups_each P (line ∷ rest) h = ahead_each P line (groups_of rest) h.0 (groups_each P rest h.1)

filled_so : (lines : List Line) → Each (λ (line : Line). Filled line → Filled line) lines
filled_so [] = tt
filled_so (line ∷ rest) = ((λ f. f), filled_so rest)

-- No group of a record has an empty line.
pub groups_filled : (lines : List Line) → Each (λ (g : Group). Each Filled g) (groups_of lines)
groups_filled lines = groups_each Filled lines (filled_so lines)

-- ---- a test of lists in a row

module _ {A : Type 0} (test : A → Bool) where
  -- What holds of each of two lists holds of both in a row, and the other way round.
  pub every_append : (xs ys : List A) → every test xs ≡ true → every test ys ≡ true → every test (xs ++ ys) ≡ true
  unfolding every
  every_append [] ys h k = k
  every_append (x ∷ xs) ys h k =
      let parts = both (test x) (every test xs) h in
      rw parts.0 (every_append xs ys parts.1 k)

  pub every-parts : (xs ys : List A) → every test (xs ++ ys) ≡ true → (every test xs ≡ true) × (every test ys ≡ true)
  unfolding every
  every-parts [] ys h = (refl, h)
  every-parts (x ∷ xs) ys h =
      let parts = both (test x) (every test (xs ++ ys)) h in
      let more = every-parts xs ys parts.1 in
      (rw parts.0 more.0, more.1)

-- ---- one line

-- A line that gives the frame due is found to be a frame.
pub found_frame : (tc : ℕ) (f : List ℕ) (fs : List (List ℕ)) (line : Line) → frame_head ≤ length f → Gives f line → finding_of tc (f ∷ fs) line ≡ frame
unfolding finding_of
found_frame tc f fs [] long g = absurd (empty_gives_none f long g)
found_frame tc f fs (c ∷ line) long g = rw (g.digits, gives_agrees f (c ∷ line) long g)

-- An empty line where no frame is left ends the group.
pub found_end : (tc : ℕ) → finding_of tc [] [] ≡ blank
unfolding finding_of
found_end tc = rw (empty_packet, none_agree)

-- A line that passes is a packet line whose octets agree with the frame due.
pub passes-agrees : (tc : ℕ) (due : List (List ℕ)) (line : Line) → passes (finding_of tc due line) ≡ true
    → (is_packet line ≡ true) × (agrees (first_of due) (octets_in line) ≡ true)
unfolding finding_of
passes-agrees tc due line h =
    by-test (is_packet line)
    (λ t. by-test (agrees (first_of due) (octets_in line)) (λ u. (t, u)) (λ w. absurd (false≢true (rw (t, w) at h))))
    (λ w. absurd (false≢true (rw w at h)))

-- ---- the TM lines of a group

-- Lines that give the frames due all pass.
pub give_passes : (tc : ℕ) (frames : List (List ℕ)) (lines : List Line) → Long frames → GiveAll frames lines → every passes (beside_all tc frames lines) ≡ true
unfolding every beside_all GiveAll
give_passes tc [] [] long g = rw (found_end tc)
give_passes tc [] (line ∷ lines) long g = absurd g
give_passes tc (f ∷ fs) [] long g = absurd g
give_passes tc (f ∷ fs) (line ∷ lines) long g = rw (found_frame tc f fs line long.0 g.0) (give_passes tc fs lines long.1 g.1)

-- Lines that are not empty and all pass give the frames due.
pub passes_give : (tc : ℕ) (frames : List (List ℕ)) (lines : List Line) → Long frames → Each Filled lines → every passes (beside_all tc frames lines) ≡ true
    → GiveAll frames lines
unfolding every beside_all GiveAll
passes_give tc [] [] long filled h = tt
passes_give tc [] ([] ∷ lines) long filled h = absurd filled.0
passes_give tc [] ((c ∷ line) ∷ lines) long filled h =
    let here = passes-agrees tc [] (c ∷ line) (both (passes (finding_of tc [] (c ∷ line))) (every passes (beside_all tc [] lines)) h).0 in
    absurd (false≢true (sym (more_parts c line here.0) ∙ here.1))
passes_give tc (f ∷ fs) [] long filled h =
    let here = passes-agrees tc (f ∷ fs) [] (both (passes (finding_of tc (f ∷ fs) [])) true h).0 in
    absurd (false≢true (sym (empty-parts f long.0) ∙ here.1))
passes_give tc (f ∷ fs) (line ∷ lines) long filled h =
    let parts = both (passes (finding_of tc (f ∷ fs) line)) (every passes (beside_all tc fs lines)) h in
    let here = passes-agrees tc (f ∷ fs) line parts.0 in
    (agrees_gives f line long.0 here.0 here.1, passes_give tc fs lines long.1 filled.1 parts.1)

-- ---- groups

-- A TC that passes is a packet line.
passes_packet : (tc : Line) → passes (finding_tc tc) ≡ true → is_packet tc ≡ true
passes_packet tc h = by-test (is_packet tc) (λ t. t) (λ w. absurd (false≢true (rw w at h)))

-- The frames due for a TC have their heads.
pub frames-long : (p : Profile) (m : Station) (tc : Line) → Long (frames_for p m tc)
frames-long p m tc = due-long (packet_input p m (octets_in tc))

-- Of groups that conform every line passes.
pub conforms_passes : (p : Profile) (m : Station) (n : ℕ) (groups : List Group) → GroupsConform p m groups → every passes (findings_from p m n groups) ≡ true
unfolding every GroupsConform findings_from
conforms_passes p m n [] c = refl
conforms_passes p m n ([] ∷ rest) c = conforms_passes p m (n + 1) rest c
conforms_passes p m n ((tc ∷ tms) ∷ rest) c =
    rw c.0
    (every_append passes (beside_all n (frames_for p m tc) tms) (findings_from p (after_tc p m tc) (n + length tms + 2) rest)
    (give_passes n (frames_for p m tc) tms (frames-long p m tc) c.1.0)
    (conforms_passes p (after_tc p m tc) (n + length tms + 2) rest c.1.1))

-- Groups without empty lines of which every line passes conform.
pub passes_conforms : (p : Profile) (m : Station) (n : ℕ) (groups : List Group) → Each (λ (g : Group). Each Filled g) groups
    → every passes (findings_from p m n groups) ≡ true → GroupsConform p m groups
unfolding every GroupsConform findings_from
passes_conforms p m n [] filled h = tt
passes_conforms p m n ([] ∷ rest) filled h = passes_conforms p m (n + 1) rest filled.1 h
passes_conforms p m n ((tc ∷ tms) ∷ rest) filled h =
    let beside : List Finding = beside_all n (frames_for p m tc) tms in
    let behind : List Finding = findings_from p (after_tc p m tc) (n + length tms + 2) rest in
    let first = both (passes (finding_tc tc)) (every passes (beside ++ behind)) h in
    let parts = every-parts passes beside behind first.1 in (
      passes_packet tc first.0,
      (
        passes_give n (frames_for p m tc) tms (frames-long p m tc) filled.0.1 parts.0,
        passes_conforms p (after_tc p m tc) (n + length tms + 2) rest filled.1 parts.1,
      ),
    )
