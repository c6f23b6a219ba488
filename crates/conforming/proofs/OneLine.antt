-- One TM line of a record that conforms is changed in more than its time: the record differs there.
-- Assumes nothing.
use mathlib.Core.Path.{◌≡◌, refl, sym, ap, subst, ◌∙◌}
use mathlib.Core.Bool.{true, false≢true}
use mathlib.Core.List.{List, [], ◌∷◌, ◌++◌, append_assoc}
use Prim.Native.Nat.{ℕ, suc, ◌+◌, ◌≤◌}
use native.Mathlib.Omega.{arith}
use lib.ListN.{length, length-append}
use Rattle.laws.specs.Each.{every}
use Rattle.laws.proofs.Tests.{by-test}
use Rattle.characters.specs.Digits.{octets_in}
use Rattle.tm.specs.Frame.{frame_head}
use Rattle.packetline.specs.Packet.{is_packet}
use Rattle.map.specs.declared.Profile.{Profile}
use Rattle.hexline.specs.Line.{Station}
use Rattle.beside.specs.Beside.{agrees}
use Rattle.conforming.specs.Groups.{Line, Group, Filled, groups_of, first_group, other_groups}
use Rattle.conforming.specs.Conforms.{frames_for, after_tc, Gives, GiveAll, GroupsConform, Conforms}
use Rattle.conforming.specs.Findings.{Finding, blank, differs, rest_of, finding_of, finding_tc, beside_all, findings_from, findings_of}
use Rattle.conforming.specs.Verdict.{Differs, verdict_of}
use Rattle.conforming.specs.Permitted.{passes, FirstAt, differing}
use Rattle.conforming.specs.Alike.{Alike}
use Rattle.conforming.proofs.Giving.{agrees_gives}
use Rattle.conforming.proofs.Passing.{Long, every_append, every-parts, found_frame, give_passes, frames-long, conforms_passes}
use Rattle.conforming.proofs.Verdicts.{permitted_verdict}
use Rattle.conforming.proofs.Changes.{gives_alike}
use Rattle.conforming.proofs.Standing.{lines_in, Within, within, within_line}

-- ---- the line that differs

-- So many findings pass, and then a line differs from a frame that another line gives.
record Parting (all : List Finding) (count : ℕ) (old new : Line) : Type 0 where
  before : List Finding
  after : List Finding
  tc : ℕ
  due : List ℕ
  gives : Gives due old
  all_is : all ≡ before ++ (differs tc due new ∷ after)
  agree : every passes before ≡ true
  count_is : length before ≡ count

-- More findings before it that pass, or any behind it.
parting_behind : (front all : List Finding) (n k : ℕ) (old new : Line) → every passes front ≡ true → k ≡ length front + n → Parting all n old new
    → Parting (front ++ all) k old new
parting_behind front all n k old new h e d =
    record {
      before = front ++ d.before;
      after = d.after;
      tc = d.tc;
      due = d.due;
      gives = d.gives;
      all_is = ap (λ (r : List Finding). front ++ r) d.all_is ∙ sym (append_assoc front d.before (differs d.tc d.due new ∷ d.after));
      agree = every_append passes front d.before h d.agree;
      count_is = omega (arith, length-append front d.before, d.count_is);
    }

parting-before : (all rest : List Finding) (n : ℕ) (old new : Line) → Parting all n old new → Parting (all ++ rest) n old new
parting-before all rest n old new d =
    record {
      before = d.before;
      after = d.after ++ rest;
      tc = d.tc;
      due = d.due;
      gives = d.gives;
      all_is = ap (λ (r : List Finding). r ++ rest) d.all_is ∙ append_assoc d.before (differs d.tc d.due new ∷ d.after) rest;
      agree = d.agree;
      count_is = d.count_is;
    }

-- A group's TM lines and the empty line that ends it are all found.
beside_length : (tc : ℕ) (due : List (List ℕ)) (lines : List Line) → length (beside_all tc due lines) ≡ length lines + 1
unfolding beside_all
beside_length tc due [] = refl
beside_length tc due (line ∷ lines) = omega (arith, beside_length tc (rest_of due) lines)

module _ (old new : Line) (digits : is_packet new ≡ true) (other : Alike old new → ⊥) where
  -- A packet line that is not like one that gives the frame due differs.
  found_other : (tc : ℕ) (f : List ℕ) (fs : List (List ℕ)) → frame_head ≤ length f → Gives f old → finding_of tc (f ∷ fs) new ≡ differs tc f new
  unfolding finding_of
  found_other tc f fs long g =
      by-test (agrees f (octets_in new))
      (λ t. absurd (other (gives_alike f old new long g (agrees_gives f new long digits t))))
      (λ w. rw (digits, w))

  -- So the lines of a group part where one stands for the other.
  lines_part : (tc : ℕ) (frames : List (List ℕ)) (tms more : List Line) → Long frames → GiveAll frames (tms ++ (old ∷ more))
      → Parting (beside_all tc frames (tms ++ (new ∷ more))) (length tms) old new
  unfolding every beside_all GiveAll
  lines_part tc [] [] more long g = absurd g
  lines_part tc [] (line ∷ tms) more long g = absurd g
  lines_part tc (f ∷ fs) [] more long g =
      record {
        before = [];
        after = beside_all tc fs more;
        tc = tc;
        due = f;
        gives = g.0;
        all_is = ap (λ (x : Finding). x ∷ beside_all tc fs more) (found_other tc f fs long.0 g.0);
        agree = refl;
        count_is = refl;
      }
  lines_part tc (f ∷ fs) (line ∷ tms) more long g =
      parting_behind (finding_of tc (f ∷ fs) line ∷ []) (beside_all tc fs (tms ++ (new ∷ more))) (length tms) (suc (length tms)) old new
      (rw (found_frame tc f fs line long.0 g.0)) (omega arith)
      (lines_part tc fs tms more long.1 g.1)

  -- And the groups.
  groups_part : (p : Profile) (m : Station) (n : ℕ) (earlier : List Group) (tc : Line) (tms more : List Line) (later : List Group)
      → GroupsConform p m (earlier ++ ((tc ∷ (tms ++ (old ∷ more))) ∷ later))
      → Parting (findings_from p m n (earlier ++ ((tc ∷ (tms ++ (new ∷ more))) ∷ later))) (lines_in earlier + length tms + 1) old new
  unfolding every GroupsConform findings_from
  groups_part p m n [] tc tms more later c =
      parting_behind (finding_tc tc ∷ [])
      (beside_all n (frames_for p m tc) (tms ++ (new ∷ more)) ++ findings_from p (after_tc p m tc) (n + length (tms ++ (new ∷ more)) + 2) later)
      (length tms) (0 + length tms + 1) old new (rw c.0) (omega arith)
      (parting-before (beside_all n (frames_for p m tc) (tms ++ (new ∷ more))) (findings_from p (after_tc p m tc) (n + length (tms ++ (new ∷ more)) + 2) later)
      (length tms) old new (lines_part n (frames_for p m tc) tms more (frames-long p m tc) c.1.0))
  groups_part p m n ([] ∷ earlier) tc tms more later c =
      parting_behind (blank ∷ []) (findings_from p m (n + 1) (earlier ++ ((tc ∷ (tms ++ (new ∷ more))) ∷ later)))
      (lines_in earlier + length tms + 1) (lines_in ([] ∷ earlier) + length tms + 1) old new refl (omega arith)
      (groups_part p m (n + 1) earlier tc tms more later c)
  groups_part p m n ((uc ∷ us) ∷ earlier) tc tms more later c =
      let k : ℕ = lines_in earlier + length tms + 1 in
      let beside : List Finding = beside_all n (frames_for p m uc) us in
      let behind : List Finding = findings_from p (after_tc p m uc) (n + length us + 2) (earlier ++ ((tc ∷ (tms ++ (new ∷ more))) ∷ later)) in
      let long : length beside ≡ length us + 1 = beside_length n (frames_for p m uc) us in
      parting_behind (finding_tc uc ∷ beside) behind k (lines_in ((uc ∷ us) ∷ earlier) + length tms + 1) old new
      (rw c.0 (give_passes n (frames_for p m uc) us (frames-long p m uc) c.1.0)) (omega arith)
      (groups_part p (after_tc p m uc) (n + length us + 2) earlier tc tms more later c.1.1)

-- ---- a record

-- The verdict on a changed record: it differs at the changed line, from the frame that the line before the change gives.
pub record DiffersAt (p : Profile) (m : Station) (lines : List Line) (number : ℕ) (old new : Line) : Type 0 where
  pub tc : ℕ
  pub due : List ℕ
  pub gives : Gives due old
  pub first : FirstAt number (differs tc due new) (findings_of p m lines)

module _ (p : Profile) (m : Station) (front xs ys : List Line) (c : ℕ) (t old new : Line) (stands : xs ≡ front ++ ((c ∷ t) ∷ []))
    (was : Filled old) (is : Filled new) (digits : is_packet new ≡ true) (other : Alike old new → ⊥) (fits : Conforms p m (xs ++ (old ∷ ys))) where
  parts_there : Parting (findings_of p m (xs ++ (new ∷ ys))) (length xs) old new
  parts_there =
      let w : Within xs = subst (λ (s : List Line). Within s) (sym stands) (within front c t) in
      let more : List Line = first_group (groups_of ys) in
      let later : List Group = other_groups (groups_of ys) in
      let d = groups_part old new digits other p m 1 w.earlier w.tc w.tms more later
      (subst (λ (gs : List Group). GroupsConform p m gs) (within_line w old ys was) fits) in
      subst (λ (n : ℕ). Parting (findings_of p m (xs ++ (new ∷ ys))) n old new) (sym w.as_many)
      (subst (λ (gs : List Group). Parting (findings_from p m 1 gs) (lines_in w.earlier + length w.tms + 1) old new) (sym (within_line w new ys is)) d)

  -- A TM line of a record that conforms, changed in more than its time to another packet line, is the first that does not agree.
  pub changed_first : DiffersAt p m (xs ++ (new ∷ ys)) (length xs + 1) old new
  changed_first =
      let d = parts_there in
      record {
        tc = d.tc;
        due = d.due;
        gives = d.gives;
        first = record { before = d.before; after = d.after; all_is = d.all_is; agree = d.agree; number_is = omega (arith, d.count_is) };
      }

  -- So the verdict is that the record differs there.
  pub changed_differs : verdict_of p m (xs ++ (new ∷ ys)) ≡ Differs (length xs + 1) changed_first.tc changed_first.due new
  changed_differs =
      sym (permitted_verdict p m (xs ++ (new ∷ ys)) (Differs (length xs + 1) changed_first.tc changed_first.due new)
      (differing (length xs + 1) changed_first.tc changed_first.due new changed_first.first))

  -- And the record does not conform.
  pub changed_octet : Conforms p m (xs ++ (new ∷ ys)) → ⊥
  unfolding every
  changed_octet after =
      let d = parts_there in
      let all : every passes (d.before ++ (differs d.tc d.due new ∷ d.after)) ≡ true =
      subst (λ (s : List Finding). every passes s ≡ true) d.all_is (conforms_passes p m 1 (groups_of (xs ++ (new ∷ ys))) after) in
      false≢true (every-parts passes d.before (differs d.tc d.due new ∷ d.after) all).1
