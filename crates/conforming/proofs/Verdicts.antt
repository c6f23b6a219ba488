-- The verdict on a record is permitted, and no other is.
-- Assumes nothing.
use mathlib.Core.Path.{◌≡◌, refl, sym, ap, ap₂, subst, ◌∙◌}
use mathlib.Core.Bool.{false, false≢true}
use mathlib.Core.List.{List, [], ◌∷◌}
use Prim.Native.Nat.{ℕ, zero, suc, ◌+◌, ◌<◌}
use native.Mathlib.Omega.{arith}
use lib.ListN.{length}
use Rattle.laws.specs.Each.{Each}
use Rattle.map.specs.declared.Profile.{Profile}
use Rattle.hexline.specs.Line.{Station}
use Rattle.conforming.specs.Groups.{Line, Group, ahead, groups_of}
use Rattle.conforming.specs.Conforms.{GroupsConform, Conforms, packets_in, frames_in}
use Rattle.conforming.specs.Findings.{Finding, blank, packet, frame, bad, differs, findings_of}
use Rattle.conforming.specs.Verdict.{Verdict, Conforming, Differs, Refused70, concluded, ruled_from, verdict_of}
use Rattle.conforming.specs.Permitted.{passes, FirstAt, Permitted, conforms, differing, refused_70, refused_71}
use Rattle.conforming.proofs.Passing.{groups_filled, passes_conforms}
use Rattle.conforming.proofs.Ruling.{differs_ruled, bad_ruled, Fault, none, first, fault_of, conforms_counts}

-- ---- records of empty lines

ahead_packet : (c : ℕ) (line : Line) (groups : List Group) → 0 < packets_in (ahead (c ∷ line) groups)
unfolding packets_in
ahead_packet c line [] = omega arith
ahead_packet c line (g ∷ rest) = omega arith

-- A record without packets has empty lines only.
pub no_packets_empty : (lines : List Line) → packets_in (groups_of lines) ≡ 0 → Each (λ (line : Line). line ≡ []) lines
unfolding groups_of packets_in
no_packets_empty [] h = tt
no_packets_empty ([] ∷ rest) h = (refl, no_packets_empty rest h)
no_packets_empty ((c ∷ line) ∷ rest) h = absurd (omega (arith, ahead_packet c line (groups_of rest)))

-- A record of empty lines has no packets.
pub empty_no_packets : (lines : List Line) → Each (λ (line : Line). line ≡ []) lines → packets_in (groups_of lines) ≡ 0
unfolding groups_of packets_in
empty_no_packets [] h = refl
empty_no_packets ([] ∷ rest) h = empty_no_packets rest h.1
empty_no_packets ((c ∷ line) ∷ rest) h =
    let e : c ∷ line ≡ [] = h.0 in
    let z : ◌≡◌ {A = ℕ} 0 1 = cc in
    absurd (omega arith)

-- It conforms.
pub empty_conforms : (p : Profile) (m : Station) (lines : List Line) → Each (λ (line : Line). line ≡ []) lines → Conforms p m lines
unfolding groups_of GroupsConform
empty_conforms p m [] h = tt
empty_conforms p m ([] ∷ rest) h = empty_conforms p m rest h.1
empty_conforms p m ((c ∷ line) ∷ rest) h =
    let e : c ∷ line ≡ [] = h.0 in
    let z : ◌≡◌ {A = ℕ} 0 1 = cc in
    absurd (omega arith)

concluded_some : (packets frames : ℕ) → 0 < packets → concluded packets frames ≡ Conforming packets frames
concluded_some zero frames h = absurd (omega arith)
concluded_some (suc packets) frames h = refl

module _ (p : Profile) (m : Station) (lines : List Line) where
  -- A record that conforms is concluded with its packets and TM lines.
  conforms_concluded : Conforms p m lines → verdict_of p m lines ≡ concluded (packets_in (groups_of lines)) (frames_in (groups_of lines))
  conforms_concluded c =
      let packets : 0 + packets_in (groups_of lines) ≡ packets_in (groups_of lines) = omega arith in
      let frames : 0 + frames_in (groups_of lines) ≡ frames_in (groups_of lines) = omega arith in
      conforms_counts p m 1 (groups_of lines) 1 0 0 c ∙ ap₂ concluded packets frames

  -- The first line that differs decides, and the first that is no packet line.
  first_differs : (number tc : ℕ) (due : List ℕ) (line : Line) → FirstAt number (differs tc due line) (findings_of p m lines)
      → Differs number tc due line ≡ verdict_of p m lines
  first_differs number tc due line at =
      let n : number ≡ 1 + length at.before = omega (arith, at.number_is) in
      ap (λ (k : ℕ). Differs k tc due line) n ∙ sym (ap (ruled_from 1 0 0) at.all_is ∙ differs_ruled at.before at.after tc due line 1 0 0 at.agree)

  first_bad : (number : ℕ) (line : Line) → FirstAt number (bad line) (findings_of p m lines) → Refused70 number line ≡ verdict_of p m lines
  first_bad number line at =
      let n : number ≡ 1 + length at.before = omega (arith, at.number_is) in
      ap (λ (k : ℕ). Refused70 k line) n ∙ sym (ap (ruled_from 1 0 0) at.all_is ∙ bad_ruled at.before at.after line 1 0 0 at.agree)

  -- ---- the verdict is permitted

  conforms_permitted : Conforms p m lines → (packets : ℕ) → packets ≡ packets_in (groups_of lines) → Permitted p m lines (concluded packets (frames_in (groups_of lines)))
  conforms_permitted c zero e = refused_71 (no_packets_empty lines (sym e))
  conforms_permitted c (suc packets) e =
      subst (λ (n : ℕ). Permitted p m lines (Conforming n (frames_in (groups_of lines)))) (sym e) (conforms c (omega arith))

  fault_permitted : (number : ℕ) (found : Finding) → FirstAt number found (findings_of p m lines) → passes found ≡ false → Permitted p m lines (verdict_of p m lines)
  fault_permitted number blank at w = absurd (false≢true (sym w))
  fault_permitted number packet at w = absurd (false≢true (sym w))
  fault_permitted number frame at w = absurd (false≢true (sym w))
  fault_permitted number (bad line) at w =
      subst (λ (v : Verdict). Permitted p m lines v) (first_bad number line at) (refused_70 number line at)
  fault_permitted number (differs tc due line) at w =
      subst (λ (v : Verdict). Permitted p m lines v) (first_differs number tc due line at) (differing number tc due line at)

  by_fault : Fault (findings_of p m lines) → Permitted p m lines (verdict_of p m lines)
  by_fault (none h) =
      let c : Conforms p m lines = passes_conforms p m 1 (groups_of lines) (groups_filled lines) h in
      subst (λ (v : Verdict). Permitted p m lines v) (sym (conforms_concluded c)) (conforms_permitted c (packets_in (groups_of lines)) refl)
  by_fault (first number found at wrong) = fault_permitted number found at wrong

  -- The verdict on a record is permitted.
  pub verdict_permitted : Permitted p m lines (verdict_of p m lines)
  verdict_permitted = by_fault (fault_of (findings_of p m lines))

  -- ---- and no other

  -- A verdict that is permitted on a record is the verdict on it.
  pub permitted_verdict : (v : Verdict) → Permitted p m lines v → v ≡ verdict_of p m lines
  permitted_verdict v (conforms c some) =
      sym (conforms_concluded c ∙ concluded_some (packets_in (groups_of lines)) (frames_in (groups_of lines)) some)
  permitted_verdict v (differing number tc due line at) = first_differs number tc due line at
  permitted_verdict v (refused_70 number line at) = first_bad number line at
  permitted_verdict v (refused_71 h) =
      sym (conforms_concluded (empty_conforms p m lines h) ∙ ap (λ (n : ℕ). concluded n (frames_in (groups_of lines))) (empty_no_packets lines h))

  -- Any two verdicts that are permitted on a record are equal.
  pub permitted_one : (v w : Verdict) → Permitted p m lines v → Permitted p m lines w → v ≡ w
  permitted_one v w a b = permitted_verdict v a ∙ sym (permitted_verdict w b)

  -- ---- conforming, exactly

  permitted_conforming : (packets frames : ℕ) (v : Verdict) → v ≡ Conforming packets frames → Permitted p m lines v
      → Conforms p m lines × (packets ≡ packets_in (groups_of lines)) × (frames ≡ frames_in (groups_of lines)) × (0 < packets)
  permitted_conforming packets frames v e (conforms c some) =
      let same : packets ≡ packets_in (groups_of lines) = cc in
      let as_many : frames ≡ frames_in (groups_of lines) = cc in
      (c, same, as_many, omega arith)
  permitted_conforming packets frames v e (differing number tc due line at) = let z : ◌≡◌ {A = ℕ} 0 1 = cc in absurd (omega arith)
  permitted_conforming packets frames v e (refused_70 number line at) = let z : ◌≡◌ {A = ℕ} 0 1 = cc in absurd (omega arith)
  permitted_conforming packets frames v e (refused_71 h) = let z : ◌≡◌ {A = ℕ} 0 1 = cc in absurd (omega arith)

  -- A record on which the verdict is conforming conforms, and has so many TCs, at least one, and so many TM lines.
  pub conforming_exactly : (packets frames : ℕ) → verdict_of p m lines ≡ Conforming packets frames
      → Conforms p m lines × (packets ≡ packets_in (groups_of lines)) × (frames ≡ frames_in (groups_of lines)) × (0 < packets)
  conforming_exactly packets frames e = permitted_conforming packets frames (verdict_of p m lines) e verdict_permitted

  -- On a record of at least one TC that conforms the verdict is conforming, with its TCs and TM lines.
  pub conforms_conforming : Conforms p m lines → 0 < packets_in (groups_of lines)
      → verdict_of p m lines ≡ Conforming (packets_in (groups_of lines)) (frames_in (groups_of lines))
  conforms_conforming c some = conforms_concluded c ∙ concluded_some (packets_in (groups_of lines)) (frames_in (groups_of lines)) some
