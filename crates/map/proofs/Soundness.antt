-- What soundness says, as facts: the other laws of a sound profile follow from these.
use mathlib.Core.Bool.{true}
use mathlib.Core.Logic.{◌⊎◌, inl, inr, ⊎_elim}
use mathlib.Core.Path.{◌≡◌}
use Prim.Native.Nat.{ℕ, ◌+◌, ◌≤◌, ◌^◌}
use lib.Dec.{leb}
use borrow.Author.Tests.{leb-true, not-true, eqb-false}
use Rattle.map.specs.declared.Area.{Area}
use Rattle.map.specs.declared.Profile.{Profile}
use Rattle.map.specs.Place.{areas_most, used, octets_of}
use Rattle.laws.specs.Each.{every}
use Rattle.map.specs.Sound.{pid_most, sound, area_sound, pair_sound, apart, every_pair}
use Rattle.laws.proofs.Tests.{halves, or_cases, or_swap}

pub record SoundFacts (p : Profile) (octets : ℕ) : Type 0 where
  pub pid : p.pid ≤ pid_most
  pub count : p.count ≤ areas_most
  pub areas : every (area_sound octets) (used p) ≡ true
  pub pairs : every_pair (used p) ≡ true

pub sound_facts : (p : Profile) (octets : ℕ) → sound p octets ≡ true → SoundFacts p octets
unfolding sound
sound_facts p octets h = record {
  pid = leb-true _ _ (search halves);
  count = leb-true _ _ (search halves);
  areas = search halves;
  pairs = search halves;
}

pub record AreaFacts (octets : ℕ) (a : Area) : Type 0 where
  pub length : 1 ≤ a.length
  pub end : a.start + a.length ≤ 2 ^ 32
  pub stored : octets_of a (a.first + a.length) ≤ octets

pub area_facts : (octets : ℕ) (a : Area) → area_sound octets a ≡ true → AreaFacts octets a
unfolding area_sound
area_facts octets a h = record {
  length = leb-true _ _ (search halves);
  end = leb-true _ _ (search halves);
  stored = leb-true _ _ (search halves);
}

pub pair_ids_differ : (a b : Area) → pair_sound a b ≡ true → a.id ≡ b.id → ⊥
unfolding pair_sound
pair_ids_differ a b h = eqb-false _ _ (not-true _ (search halves))

pub pair_apart : (a b : Area) → pair_sound a b ≡ true → apart a b ≡ true
unfolding pair_sound
pair_apart a b h = search halves

pub apart_facts : (a b : Area) → apart a b ≡ true → (a.first + a.length ≤ b.first) ⊎ (b.first + b.length ≤ a.first)
unfolding apart
apart_facts a b h =
    ⊎_elim (λ l. inl (leb-true _ _ l)) (λ l. inr (leb-true _ _ l))
    (or_cases (leb (a.first + a.length) b.first) (leb (b.first + b.length) a.first) h)

pub apart_sym : (a b : Area) → apart a b ≡ true → apart b a ≡ true
unfolding apart
apart_sym a b h = search or_swap
