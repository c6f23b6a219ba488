-- The verdict on a record, line by line: outside of a group, and inside of one, where some frames are still due.
-- Assumes nothing.
use mathlib.Core.Path.{◌≡◌, refl, ap, ◌∙◌}
use mathlib.Core.Bool.{true, false}
use mathlib.Core.List.{List, [], ◌∷◌, ◌++◌}
use Prim.Native.Nat.{ℕ, ◌+◌}
use native.Mathlib.Omega.{arith}
use lib.ListN.{length}
use Rattle.characters.specs.Digits.{octets_in}
use Rattle.packetline.specs.Packet.{is_packet}
use Rattle.map.specs.declared.Profile.{Profile}
use Rattle.hexline.specs.Line.{Station}
use Rattle.beside.specs.Beside.{agrees}
use Rattle.conforming.specs.Groups.{Line, Group, groups_of, first_group, other_groups}
use Rattle.conforming.specs.Conforms.{frames_for, after_tc}
use Rattle.conforming.specs.Findings.{blank, frame, bad, differs, first_of, rest_of, finding_of, beside_all, findings_from}
use Rattle.conforming.specs.Verdict.{Verdict, Differs, Refused70, concluded, ruled_from, verdict_of}
use Rattle.conforming.proofs.Giving.{empty_packet}
use Rattle.conforming.proofs.Standing.{groups_line}

-- The verdict behind so many lines, packets and frames, outside of a group, and inside of the group of the TC at a line.
pub verdict_outside : Profile → Station → ℕ → ℕ → ℕ → List Line → Verdict
verdict_outside p s k packets frames lines = ruled_from (k + 1) packets frames (findings_from p s (k + 1) (groups_of lines))

pub verdict_inside : Profile → Station → ℕ → ℕ → ℕ → ℕ → List (List ℕ) → List Line → Verdict
verdict_inside p s k packets frames tc due lines =
    let groups : List Group = groups_of lines in
    ruled_from (k + 1) packets frames (beside_all tc due (first_group groups) ++ findings_from p s (k + length (first_group groups) + 2) (other_groups groups))

groups_blank : (ls : List Line) → groups_of ([] ∷ ls) ≡ [] ∷ groups_of ls
unfolding groups_of
groups_blank ls = refl

-- What a line is found to be, beside the frames still due.
found_agreeing : (tc : ℕ) (due : List (List ℕ)) (c : ℕ) (l : Line) → is_packet (c ∷ l) ≡ true → agrees (first_of due) (octets_in (c ∷ l)) ≡ true → finding_of tc due (c ∷ l) ≡ frame
unfolding finding_of
found_agreeing tc due c l t a = rw (t, a) refl

found_blank : (tc : ℕ) (due : List (List ℕ)) → agrees (first_of due) (octets_in []) ≡ true → finding_of tc due [] ≡ blank
unfolding finding_of
found_blank tc due a = rw (empty_packet, a) refl

found_parted : (tc : ℕ) (due : List (List ℕ)) (l : Line) → is_packet l ≡ true → agrees (first_of due) (octets_in l) ≡ false → finding_of tc due l ≡ differs tc (first_of due) l
unfolding finding_of
found_parted tc due l t a = rw (t, a) refl

found_bad : (tc : ℕ) (due : List (List ℕ)) (l : Line) → is_packet l ≡ false → finding_of tc due l ≡ bad l
unfolding finding_of
found_bad tc due l t = rw t refl

module _ (p : Profile) (s : Station) (k packets frames : ℕ) where
  -- ---- outside of a group

  pub outside_end : verdict_outside p s k packets frames [] ≡ concluded packets frames
  unfolding verdict_outside groups_of findings_from ruled_from
  outside_end = refl

  pub outside_blank : (ls : List Line) → verdict_outside p s k packets frames ([] ∷ ls) ≡ verdict_outside p s (k + 1) packets frames ls
  unfolding verdict_outside groups_of findings_from ruled_from
  outside_blank ls = refl

  pub outside_bad : (c : ℕ) (l : Line) (ls : List Line) → is_packet (c ∷ l) ≡ false → verdict_outside p s k packets frames ((c ∷ l) ∷ ls) ≡ Refused70 (k + 1) (c ∷ l)
  unfolding verdict_outside findings_from ruled_from
  outside_bad c l ls t =
      ap (λ (gs : List Group). ruled_from (k + 1) packets frames (findings_from p s (k + 1) gs)) (groups_line c l ls) ∙ rw t refl

  pub outside_packet : (c : ℕ) (l : Line) (ls : List Line) → is_packet (c ∷ l) ≡ true
      → verdict_outside p s k packets frames ((c ∷ l) ∷ ls) ≡ verdict_inside p (after_tc p s (c ∷ l)) (k + 1) (packets + 1) frames (k + 1) (frames_for p s (c ∷ l)) ls
  unfolding verdict_outside verdict_inside findings_from ruled_from
  outside_packet c l ls t =
      ap (λ (gs : List Group). ruled_from (k + 1) packets frames (findings_from p s (k + 1) gs)) (groups_line c l ls) ∙ rw t refl

  -- ---- inside of a group

  module _ (tc : ℕ) (due : List (List ℕ)) where
    -- The line that comes next, and what is behind it.
    inside_next : (c : ℕ) (l : Line) (ls : List Line) → verdict_inside p s k packets frames tc due ((c ∷ l) ∷ ls)
        ≡ ruled_from (k + 1) packets frames (finding_of tc due (c ∷ l) ∷ (beside_all tc (rest_of due) (first_group (groups_of ls)) ++ findings_from p s (k + 1 + length (first_group (groups_of ls)) + 2) (other_groups (groups_of ls))))
    unfolding verdict_inside beside_all first_group other_groups
    inside_next c l ls =
        let g : Group = first_group (groups_of ls) in
        let e : k + length ((c ∷ l) ∷ g) + 2 ≡ k + 1 + length g + 2 = omega arith in
        ap (λ (gs : List Group). ruled_from (k + 1) packets frames (beside_all tc due (first_group gs) ++ findings_from p s (k + length (first_group gs) + 2) (other_groups gs))) (groups_line c l ls)
        ∙ ap (λ (n : ℕ). ruled_from (k + 1) packets frames (finding_of tc due (c ∷ l) ∷ (beside_all tc (rest_of due) g ++ findings_from p s n (other_groups (groups_of ls))))) e

    inside_last : (ls : List Line) → verdict_inside p s k packets frames tc due ([] ∷ ls) ≡ ruled_from (k + 1) packets frames (finding_of tc due [] ∷ findings_from p s (k + 1 + 1) (groups_of ls))
    unfolding verdict_inside groups_of beside_all first_group other_groups
    inside_last ls = ap (λ (n : ℕ). ruled_from (k + 1) packets frames (finding_of tc due [] ∷ findings_from p s n (groups_of ls))) (omega arith)

    pub inside_frame : (c : ℕ) (l : Line) (ls : List Line) → is_packet (c ∷ l) ≡ true → agrees (first_of due) (octets_in (c ∷ l)) ≡ true
        → verdict_inside p s k packets frames tc due ((c ∷ l) ∷ ls) ≡ verdict_inside p s (k + 1) packets (frames + 1) tc (rest_of due) ls
    unfolding verdict_inside ruled_from
    inside_frame c l ls t a = inside_next c l ls ∙ rw (found_agreeing tc due c l t a) refl

    pub inside-blank : (ls : List Line) → agrees (first_of due) (octets_in []) ≡ true
        → verdict_inside p s k packets frames tc due ([] ∷ ls) ≡ verdict_outside p s (k + 1) packets frames ls
    unfolding verdict_outside ruled_from
    inside-blank ls a = inside_last ls ∙ rw (found_blank tc due a) refl

    pub inside_differs : (l : Line) (ls : List Line) → is_packet l ≡ true → agrees (first_of due) (octets_in l) ≡ false
        → verdict_inside p s k packets frames tc due (l ∷ ls) ≡ Differs (k + 1) tc (first_of due) l
    unfolding ruled_from
    inside_differs [] ls t a = inside_last ls ∙ rw (found_parted tc due [] t a) refl
    inside_differs (c ∷ l) ls t a = inside_next c l ls ∙ rw (found_parted tc due (c ∷ l) t a) refl

    pub inside_bad : (l : Line) (ls : List Line) → is_packet l ≡ false → verdict_inside p s k packets frames tc due (l ∷ ls) ≡ Refused70 (k + 1) l
    unfolding ruled_from
    inside_bad [] ls t = inside_last ls ∙ rw (found_bad tc due [] t) refl
    inside_bad (c ∷ l) ls t = inside_next c l ls ∙ rw (found_bad tc due (c ∷ l) t) refl

    -- The end of the input serves as the empty line that ends the group.
    inside-over : verdict_inside p s k packets frames tc due [] ≡ ruled_from (k + 1) packets frames (finding_of tc due [] ∷ [])
    unfolding verdict_inside groups_of beside_all findings_from first_group other_groups
    inside-over = refl

    pub inside_end : agrees (first_of due) (octets_in []) ≡ true → verdict_inside p s k packets frames tc due [] ≡ concluded packets frames
    unfolding ruled_from
    inside_end a = inside-over ∙ rw (found_blank tc due a) refl

    pub inside-missing : agrees (first_of due) (octets_in []) ≡ false → verdict_inside p s k packets frames tc due [] ≡ Differs (k + 1) tc (first_of due) []
    unfolding ruled_from
    inside-missing a = inside-over ∙ rw (found_parted tc due [] empty_packet a) refl

-- Behind no line it is the verdict on the record.
pub whole : (p : Profile) (s : Station) (lines : List Line) → verdict_outside p s 0 0 0 lines ≡ verdict_of p s lines
unfolding verdict_outside
whole p s lines = refl
