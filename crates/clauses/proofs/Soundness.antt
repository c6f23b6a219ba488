-- No clause is told where the profile is sound over a store that may be lent, and nowhere else.
-- Assumes nothing.
use mathlib.Core.Bool.{Bool, true, false, cond, ◌&&◌, and_assoc, and-true}
use mathlib.Core.List.{List, [], ◌∷◌}
use mathlib.Core.Path.{◌≡◌, refl, sym, ap, ◌∙◌}
use Prim.Native.Nat.{ℕ, suc, ◌+◌, ◌%◌, ◌^◌}
use lib.Dec.{leb, eqb}
use Rattle.std.specs.Prelude.{Result, Ok, is_ok}
use Rattle.laws.specs.Each.{every}
use Rattle.laws.proofs.Tests.{both, by-test}
use Rattle.map.specs.declared.Area.{Area}
use Rattle.map.specs.declared.Profile.{Profile}
use Rattle.map.specs.Place.{areas_most, used, octets_of}
use Rattle.map.specs.Sound.{store_most, pid_most, store_allowed, area_sound, apart, pair_sound, every_pair, sound}
use Rattle.clauses.specs.declared.Clause.{Clause}
use Rattle.clauses.specs.Clauses.{own_clause, pair_clause, own_from, later_from, pairs_from, clause_of}
use Rattle.clauses.proofs.Firsts.{sound_only, first_both}

-- Where a test that fails tells a failure, none is told if the test holds and what comes behind it tells none.
behind : (test : Bool) (c d : Result Unit Clause) → is_ok d ≡ false → is_ok (cond test c d) ≡ test && is_ok c
behind true c d h = refl
behind false c d h = h

-- No failure is told where the test of map/specs/Sound holds: of one area, of two, of each by itself, of one with each later one, of each pair.
pub own_sound : (octets i : ℕ) (a : Area) → is_ok (own_clause octets i a) ≡ area_sound octets a
unfolding own_clause area_sound
own_sound octets i a =
    rw (
      and_assoc,
      behind (leb 1 a.length) _ _ refl,
      behind (leb (a.start + a.length) (2 ^ 32)) _ _ refl,
      behind (leb (octets_of a (a.first + a.length)) octets) _ _ refl,
      and-true,
    )

pub pair_sound_lem : (i : ℕ) (a : Area) (j : ℕ) (b : Area) → is_ok (pair_clause i a j b) ≡ pair_sound a b
unfolding pair_clause pair_sound
pair_sound_lem i a j b =
    by-test (eqb a.id b.id) (λ same. rw same) (λ differ. rw (differ, behind (apart a b) _ _ refl, and-true))

pub each_own_sound : (octets i : ℕ) (l : List Area) → is_ok (own_from octets i l) ≡ every (area_sound octets) l
unfolding own_from every
each_own_sound octets i [] = refl
each_own_sound octets i (a ∷ rest) =
    rw (first_both (own_clause octets i a) (own_from octets (suc i) rest), own_sound octets i a, each_own_sound octets (suc i) rest)

pub each_later_sound : (i : ℕ) (a : Area) (j : ℕ) (l : List Area) → is_ok (later_from i a j l) ≡ every (pair_sound a) l
unfolding later_from every
each_later_sound i a j [] = refl
each_later_sound i a j (b ∷ rest) =
    rw (first_both (pair_clause i a j b) (later_from i a (suc j) rest), pair_sound_lem i a j b, each_later_sound i a (suc j) rest)

pub each_pair_sound : (i : ℕ) (l : List Area) → is_ok (pairs_from i l) ≡ every_pair l
unfolding pairs_from every_pair
each_pair_sound i [] = refl
each_pair_sound i (a ∷ rest) =
    rw (first_both (later_from i a (suc i) rest) (pairs_from (suc i) rest), each_later_sound i a (suc i) rest, each_pair_sound (suc i) rest)

-- No failure is told where the store may be lent and the profile is sound over it, and nowhere else.
pub clause_tells : (p : Profile) (octets : ℕ) → is_ok (clause_of p octets) ≡ store_allowed octets && sound p octets
unfolding clause_of store_allowed sound
clause_tells p octets =
    simp and_assoc
    (rw (
      behind (eqb (octets % 2) 0) _ _ refl,
      behind (leb octets store_most) _ _ refl,
      behind (leb p.pid pid_most) _ _ refl,
      behind (leb p.count areas_most) _ _ refl,
      first_both (own_from octets 1 (used p)) (pairs_from 1 (used p)),
      each_own_sound octets 1 (used p),
      each_pair_sound 1 (used p),
    ))

-- Where no clause is told, the profile is sound and the store may be lent.
pub clause_sound : (p : Profile) (octets : ℕ) → clause_of p octets ≡ Ok tt → (sound p octets ≡ true) × (store_allowed octets ≡ true)
clause_sound p octets h =
    let b = both (store_allowed octets) (sound p octets) (sym (clause_tells p octets) ∙ ap is_ok h) in
    (b.1, b.0)

-- Where the profile is sound and the store may be lent, no clause is told.
pub sound_clause : (p : Profile) (octets : ℕ) → sound p octets ≡ true → store_allowed octets ≡ true → clause_of p octets ≡ Ok tt
sound_clause p octets s a = sound_only (clause_of p octets) (clause_tells p octets ∙ rw (a, s))
