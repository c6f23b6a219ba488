-- What may change in a record that conforms: the times, and nothing else of its TM lines.
-- Assumes nothing.
use mathlib.Core.Path.{◌≡◌, refl, sym, subst, ◌∙◌}
use mathlib.Core.Bool.{true}
use mathlib.Core.List.{List, [], ◌∷◌}
use Prim.Native.Nat.{ℕ, ◌≤◌}
use native.Mathlib.Omega.{arith}
use lib.ListN.{length}
use Rattle.laws.specs.Each.{Each}
use Rattle.laws.proofs.Each.{each_so}
use Rattle.characters.specs.Digits.{octets_in}
use Rattle.tm.specs.Frame.{frame_head}
use Rattle.packetline.specs.Packet.{is_packet}
use Rattle.map.specs.declared.Profile.{Profile}
use Rattle.terminal.specs.Outcome.{frames_due}
use Rattle.hexline.specs.Line.{Station, packet_input, packet_after}
use Rattle.beside.proofs.Agreeing.{agrees-length, agrees-octet, octets_agree}
use Rattle.conforming.specs.Groups.{Line, Group, groups_of}
use Rattle.conforming.specs.Conforms.{frames_for, after_tc, Gives, GiveAll, GroupsConform, Conforms, packets_in}
use Rattle.conforming.specs.Alike.{Alike, AllAlike, packets_of, reports_of, GroupsAlike}
use Rattle.conforming.proofs.Giving.{gives_agrees, agrees_gives}
use Rattle.conforming.proofs.Passing.{Long, groups_each, frames-long}

-- ---- lines

-- Two lines that give one frame are alike.
pub gives_alike : (f : List ℕ) (a b : Line) → frame_head ≤ length f → Gives f a → Gives f b → Alike a b
gives_alike f a b long ga gb =
    let ea = gives_agrees f a long ga in
    let eb = gives_agrees f b long gb in
    record {
      as_many = sym (agrees-length f (octets_in a) ea) ∙ agrees-length f (octets_in b) eb;
      same = λ k t. agrees-octet f (octets_in a) ea k t ∙ sym (agrees-octet f (octets_in b) eb k t);
    }

-- A packet line that is like one that gives a frame gives it too.
pub alike_gives : (f : List ℕ) (a b : Line) → frame_head ≤ length f → Gives f a → Alike a b → is_packet b ≡ true → Gives f b
alike_gives f a b long g h packet =
    let e = gives_agrees f a long g in
    agrees_gives f b long packet
    (octets_agree f (octets_in b) (agrees-length f (octets_in a) e ∙ h.as_many) (λ k _ t. sym (agrees-octet f (octets_in a) e k t) ∙ h.same k t))

-- Lines that give the same frames are alike, in order and number.
pub give_all_alike : (frames : List (List ℕ)) (xs ys : List Line) → Long frames → GiveAll frames xs → GiveAll frames ys → AllAlike xs ys
unfolding GiveAll AllAlike
give_all_alike [] [] [] long g h = tt
give_all_alike [] [] (b ∷ ys) long g h = absurd h
give_all_alike [] (a ∷ xs) ys long g h = absurd g
give_all_alike (f ∷ fs) [] ys long g h = absurd g
give_all_alike (f ∷ fs) (a ∷ xs) [] long g h = absurd h
give_all_alike (f ∷ fs) (a ∷ xs) (b ∷ ys) long g h = (gives_alike f a b long.0 g.0 h.0, give_all_alike fs xs ys long.1 g.1 h.1)

alike_give_all : (frames : List (List ℕ)) (xs ys : List Line) → Long frames → GiveAll frames xs → AllAlike xs ys → Each (λ (b : Line). is_packet b ≡ true) ys
    → GiveAll frames ys
unfolding GiveAll AllAlike
alike_give_all [] [] [] long g h packets = tt
alike_give_all [] [] (b ∷ ys) long g h packets = absurd h
alike_give_all [] (a ∷ xs) ys long g h packets = absurd g
alike_give_all (f ∷ fs) [] ys long g h packets = absurd g
alike_give_all (f ∷ fs) (a ∷ xs) [] long g h packets = absurd h
alike_give_all (f ∷ fs) (a ∷ xs) (b ∷ ys) long g h packets =
    (alike_gives f a b long.0 g.0 h.0 packets.0, alike_give_all fs xs ys long.1 g.1 h.1 packets.1)

-- ---- groups

module _ (p : Profile) where
  -- Groups that conform to the same packets have TM lines that are alike, group by group.
  pub groups_alike : (m : Station) (gs hs : List Group) → GroupsConform p m gs → GroupsConform p m hs → packets_of gs ≡ packets_of hs
      → GroupsAlike (reports_of gs) (reports_of hs)
  unfolding GroupsConform packets_of reports_of GroupsAlike
  groups_alike m [] [] c d e = tt
  groups_alike m [] ([] ∷ hs) c d e = groups_alike m [] hs c d e
  groups_alike m [] ((uc ∷ us) ∷ hs) c d e = let z : ◌≡◌ {A = ℕ} 0 1 = cc in absurd (omega arith)
  groups_alike m ([] ∷ gs) hs c d e = groups_alike m gs hs c d e
  groups_alike m ((tc ∷ ts) ∷ gs) [] c d e = let z : ◌≡◌ {A = ℕ} 0 1 = cc in absurd (omega arith)
  groups_alike m ((tc ∷ ts) ∷ gs) ([] ∷ hs) c d e = groups_alike m ((tc ∷ ts) ∷ gs) hs c d e
  groups_alike m ((tc ∷ ts) ∷ gs) ((uc ∷ us) ∷ hs) c d e =
      let packet : octets_in uc ≡ octets_in tc = cc in
      let rest : packets_of gs ≡ packets_of hs = cc in (
        give_all_alike (frames_for p m tc) ts us (frames-long p m tc) c.1.0 (subst (λ (s : List ℕ). GiveAll (frames_due (packet_input p m s)) us) packet d.1.0),
        groups_alike (after_tc p m tc) gs hs c.1.1 (subst (λ (s : List ℕ). GroupsConform p (packet_after p m s) hs) packet d.1.1) rest,
      )

  -- Groups of packet lines, with the packets of groups that conform and TM lines that are like theirs, conform.
  pub alike_groups : (m : Station) (gs hs : List Group) → GroupsConform p m gs → packets_of gs ≡ packets_of hs
      → Each (λ (g : Group). Each (λ (line : Line). is_packet line ≡ true) g) hs → GroupsAlike (reports_of gs) (reports_of hs) → GroupsConform p m hs
  unfolding GroupsConform packets_of reports_of GroupsAlike
  alike_groups m [] [] c e packets h = tt
  alike_groups m [] ([] ∷ hs) c e packets h = alike_groups m [] hs c e packets.1 h
  alike_groups m [] ((uc ∷ us) ∷ hs) c e packets h = absurd h
  alike_groups m ([] ∷ gs) hs c e packets h = alike_groups m gs hs c e packets h
  alike_groups m ((tc ∷ ts) ∷ gs) [] c e packets h = absurd h
  alike_groups m ((tc ∷ ts) ∷ gs) ([] ∷ hs) c e packets h = alike_groups m ((tc ∷ ts) ∷ gs) hs c e packets.1 h
  alike_groups m ((tc ∷ ts) ∷ gs) ((uc ∷ us) ∷ hs) c e packets h =
      let packet : octets_in tc ≡ octets_in uc = cc in
      let rest : packets_of gs ≡ packets_of hs = cc in
      let frames : GiveAll (frames_for p m tc) us = alike_give_all (frames_for p m tc) ts us (frames-long p m tc) c.1.0 h.0 packets.0.1 in
      let more : GroupsConform p (after_tc p m tc) hs = alike_groups (after_tc p m tc) gs hs c.1.1 rest packets.1 h.1 in (
        packets.0.0,
        (subst (λ (s : List ℕ). GiveAll (frames_due (packet_input p m s)) us) packet frames, subst (λ (s : List ℕ). GroupsConform p (packet_after p m s) hs) packet more),
      )

-- ---- records

-- Groups have as many packets as they have TCs.
pub packets-counted : (groups : List Group) → length (packets_of groups) ≡ packets_in groups
unfolding packets_of packets_in
packets-counted [] = refl
packets-counted ([] ∷ rest) = packets-counted rest
packets-counted ((tc ∷ tms) ∷ rest) = omega (arith, packets-counted rest)

-- Two records that conform and have the same TCs have the same frames, in order and number, but for their times.
pub one_record : (p : Profile) (m : Station) (r s : List Line) → Conforms p m r → Conforms p m s → packets_of (groups_of r) ≡ packets_of (groups_of s)
    → GroupsAlike (reports_of (groups_of r)) (reports_of (groups_of s))
one_record p m r s c d e = groups_alike p m (groups_of r) (groups_of s) c d e

-- A record of packet lines, with the TCs of one that conforms and the same frames but for their times, conforms.
pub times_free : (p : Profile) (m : Station) (r s : List Line) → Conforms p m r → packets_of (groups_of r) ≡ packets_of (groups_of s)
    → Each (λ (line : Line). is_packet line ≡ true) s → GroupsAlike (reports_of (groups_of r)) (reports_of (groups_of s)) → Conforms p m s
times_free p m r s c e packets h =
    alike_groups p m (groups_of r) (groups_of s) c e
    (groups_each (λ (line : Line). is_packet line ≡ true) s (each_so s (λ line t. λ _. t) packets)) h
