-- When one profile is wider than another: it is reflexive over sound profiles and transitive, and what is found in the narrower is covered by what is found in the wider.
use Rattle.std.specs.Prelude.{Some, None, Option}
use mathlib.Core.Bool.{true, false≢true}
use mathlib.Core.Logic.{⊎_elim}
use mathlib.Core.List.{List, [], ◌∷◌, Memᴰ}
use mathlib.Core.Path.{◌≡◌, refl, ◌∙◌}
use Prim.Native.Nat.{ℕ}
use borrow.Author.Tests.{eqb-true, eq-eqb}
use Rattle.map.specs.declared.Area.{Area}
use Rattle.map.specs.declared.Profile.{Profile}
use Rattle.map.specs.Place.{used, find_in}
use Rattle.laws.specs.Each.{every}
use Rattle.map.specs.Sound.{sound}
use Rattle.wider.specs.Wider.{covers, covered, keeps_flags, wider}
use Rattle.laws.proofs.Each.{every_member, members_every}
use Rattle.laws.proofs.Tests.{halves, or_cases, or_right}
use Rattle.map.proofs.Soundness.{sound_facts}
use Rattle.map.proofs.Finding.{found_member, found_id, member_found, at_is_not_nothing}
use Rattle.wider.proofs.Keeping.{flags_self, flags_trans}
use Rattle.wider.proofs.Covering.{covers_facts, covers_self, covers_trans}

pub record WiderFacts (wide narrow : Profile) (octets : ℕ) : Type 0 where
  pub wide-sound : sound wide octets ≡ true
  pub narrow-sound : sound narrow octets ≡ true
  pub pid : wide.pid ≡ narrow.pid
  pub flags : keeps_flags wide.flags narrow.flags ≡ true
  pub areas : every (covered (used wide)) (used narrow) ≡ true

pub wider_facts : (wide narrow : Profile) (octets : ℕ) → wider wide narrow octets ≡ true → WiderFacts wide narrow octets
unfolding wider
wider_facts wide narrow octets h = record {
  wide-sound = search halves;
  narrow-sound = search halves;
  pid = eqb-true _ _ (search halves);
  flags = search halves;
  areas = search halves;
}

pub facts_wider : (wide narrow : Profile) (octets : ℕ) → WiderFacts wide narrow octets → wider wide narrow octets ≡ true
unfolding wider
facts_wider wide narrow octets f =
    rw (
      f.wide-sound,
      f.narrow-sound,
      eq-eqb _ _ f.pid,
      f.flags,
    )
    f.areas

-- An area is covered by a list where one of the list covers it, and only there.
pub covered_by : (l : List Area) (a : Area) → covered l a ≡ true → (b : Area) × Memᴰ b l × (covers b a ≡ true)
unfolding covered
covered_by [] a h = absurd (false≢true h)
covered_by (x ∷ rest) a h =
    ⊎_elim
    (λ c. (x, Memᴰ.head refl, c))
    (λ c. let r = covered_by rest a c in (r.0, Memᴰ.tail r.1, r.2))
    (or_cases (covers x a) (covered rest a) h)

pub member_covers : {b : Area} {l : List Area} (a : Area) → Memᴰ b l → covers b a ≡ true → covered l a ≡ true
unfolding covered
member_covers a (Memᴰ.head {x} {xs} e) h = rw (← e, h)
member_covers a (Memᴰ.tail {x} {xs} m) h = or_right (covers x a) (covered xs a) (member_covers a m h)

pub wider_self : (p : Profile) (octets : ℕ) → sound p octets ≡ true → wider p p octets ≡ true
wider_self p octets s = facts_wider p p octets (record {
  wide-sound = s;
  narrow-sound = s;
  pid = refl;
  flags = flags_self p.flags;
  areas = members_every (covered (used p)) (used p) (λ a m. member_covers a m (covers_self a));
})

pub wider_trans :
    (a b c : Profile) (octets : ℕ) → wider a b octets ≡ true → wider b c octets ≡ true → wider a c octets ≡ true
wider_trans a b c octets h k =
    let f = wider_facts a b octets h in
    let g = wider_facts b c octets k in
    facts_wider a c octets (record {
      wide-sound = f.wide-sound;
      narrow-sound = g.narrow-sound;
      pid = f.pid ∙ g.pid;
      flags = flags_trans a.flags b.flags c.flags f.flags g.flags;
      areas = members_every (covered (used a)) (used c) (λ z m.
          let y = covered_by (used b) z (every_member (covered (used b)) m g.areas) in
          let x = covered_by (used a) y.0 (every_member (covered (used a)) y.1 f.areas) in
          member_covers z x.1 (covers_trans x.0 y.0 z x.2 y.2));
    })

-- Memory IDs differ in the wider, so the area that covers is the one that is found.
pub wider_finds :
    (wide narrow : Profile) (octets id : ℕ) (a : Area)
    → wider wide narrow octets ≡ true
    → find_in id (used narrow) ≡ Some a
    → (b : Area) × (find_in id (used wide) ≡ Some b) × (covers b a ≡ true)
wider_finds wide narrow octets id a h k =
    let f = wider_facts wide narrow octets h in
    let y = covered_by (used wide) a (every_member (covered (used wide)) (found_member id (used narrow) a k) f.areas) in
    let same : y.0.id ≡ id = (covers_facts y.0 a y.2).id ∙ found_id id (used narrow) a k in
    let there : find_in y.0.id (used wide) ≡ Some y.0 = member_found y.1 (sound_facts wide octets f.wide-sound).pairs in
    (y.0, rw same at there, y.2)

pub wider-none :
    (wide narrow : Profile) (octets id : ℕ)
    → wider wide narrow octets ≡ true
    → find_in id (used wide) ≡ None
    → find_in id (used narrow) ≡ None
wider-none wide narrow octets id h k = none (find_in id (used narrow)) refl
  where
    none : (o : Option Area) → find_in id (used narrow) ≡ o → o ≡ None
    none (Some a) e = let w = wider_finds wide narrow octets id a h e in absurd (at_is_not_nothing _ w.0 w.1 k)
    none None e = refl

-- What a narrower profile finds by a memory ID and what a wider one finds: where the narrower has an area, the wider has one that covers it.
pub data Widened : Option Area → Option Area → Type 0 where
  nowhere : {o : Option Area} → Widened None o
  widening : {a b : Area} → covers b a ≡ true → Widened (Some a) (Some b)

pub widened : (wide narrow : Profile) (octets id : ℕ) → wider wide narrow octets ≡ true
    → Widened (find_in id (used narrow)) (find_in id (used wide))
widened wide narrow octets id h = go (find_in id (used narrow)) (find_in id (used wide)) refl refl
  where
    go : (o p : Option Area) → find_in id (used narrow) ≡ o → find_in id (used wide) ≡ p → Widened o p
    go None p e f = nowhere
    go (Some a) None e f = let w = wider_finds wide narrow octets id a h e in absurd (at_is_not_nothing _ w.0 w.1 f)
    go (Some a) (Some b) e f =
        let w = wider_finds wide narrow octets id a h e in
        let same : w.0 ≡ b = cc in
        widening (rw same at w.2)
