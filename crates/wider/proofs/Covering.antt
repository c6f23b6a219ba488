-- When one area serves for another, as facts, and what follows for the other's blocks.
-- Assumes nothing.
use mathlib.Core.Bool.{true}
use mathlib.Core.Path.{◌≡◌, refl}
use mathlib.Core.List.{List}
use Prim.Native.Nat.{ℕ, ◌+◌, ◌-◌, ◌≤◌}
use native.Mathlib.Omega.{arith}
use borrow.Author.Tests.{leb-true, le-leb, eqb-true, eq-eqb}
use Rattle.laws.proofs.Tests.{halves}
use Rattle.map.specs.declared.Area.{Area}
use Rattle.map.specs.Place.{inside, octet_at, stored_at}
use Rattle.wider.specs.Wider.{keeps_rights, keeps_words, covers}
use Rattle.wider.proofs.Keeping.{rights_self, rights_trans}
use Rattle.map.proofs.Octets.{inside_facts, octet_same, stored_same}

pub record CoversFacts (wide narrow : Area) : Type 0 where
  pub id : wide.id ≡ narrow.id
  pub rights : keeps_rights wide.rights narrow.rights ≡ true
  pub start : wide.start ≤ narrow.start
  pub end : narrow.start + narrow.length ≤ wide.start + wide.length
  pub first : wide.first + (narrow.start - wide.start) ≡ narrow.first

pub covers_facts : (wide narrow : Area) → covers wide narrow ≡ true → CoversFacts wide narrow
unfolding covers keeps_words
covers_facts wide narrow h = record {
  id = eqb-true _ _ (search halves);
  rights = search halves;
  start = leb-true _ _ (search halves);
  end = leb-true _ _ (search halves);
  first = eqb-true _ _ (search halves);
}

pub facts_cover : (wide narrow : Area) → CoversFacts wide narrow → covers wide narrow ≡ true
unfolding covers keeps_words
facts_cover wide narrow f =
    rw (eq-eqb _ _ f.id, f.rights, le-leb _ _ f.start, le-leb _ _ f.end, eq-eqb _ _ f.first)

pub covers_self : (a : Area) → covers a a ≡ true
covers_self a = facts_cover a a (record { id = refl; rights = rights_self a.rights; start = omega arith; end = omega arith; first = omega arith })

pub covers_trans : (a b c : Area) → covers a b ≡ true → covers b c ≡ true → covers a c ≡ true
covers_trans a b c h k =
    let f = covers_facts a b h in
    let g = covers_facts b c k in
    facts_cover a c (record {
      id = cc;
      rights = rights_trans a.rights b.rights c.rights f.rights g.rights;
      start = omega arith;
      end = omega arith;
      first = omega arith;
    })

pub covers-octet : (wide narrow : Area) (x : ℕ) → covers wide narrow ≡ true → narrow.start ≤ x → octet_at wide x ≡ octet_at narrow x
covers-octet wide narrow x h l = let f = covers_facts wide narrow h in octet_same wide narrow x f.start l f.first

-- The same words of the store are read.
pub covers_stored :
    (wide narrow : Area) (store : List ℕ) (start words : ℕ)
    → covers wide narrow ≡ true
    → inside narrow start words ≡ true
    → stored_at wide store start words ≡ stored_at narrow store start words
covers_stored wide narrow store start words h k =
    stored_same wide narrow store start words (covers-octet wide narrow start h (inside_facts narrow start words k).from)

pub covers-inside :
    (wide narrow : Area) (start words : ℕ)
    → covers wide narrow ≡ true
    → inside narrow start words ≡ true
    → inside wide start words ≡ true
unfolding inside
covers-inside wide narrow start words h k =
    let f = covers_facts wide narrow h in
    let i = inside_facts narrow start words k in
    rw (le-leb wide.start start (omega arith)) (le-leb (start + words) (wide.start + wide.length) (omega arith))
