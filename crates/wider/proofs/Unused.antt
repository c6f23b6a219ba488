-- Places at or past the count change nothing: profiles that differ only there are sound alike, and wider alike on either side.
use mathlib.Core.Path.{◌≡◌, refl}
use Prim.Native.Nat.{ℕ, ◌≤◌}
use lib.ListN.{set}
use lib.Seq.{take-set-le}
use Rattle.map.specs.declared.Area.{Area}
use Rattle.map.specs.declared.Profile.{Profile}
use Rattle.map.specs.Place.{used}
use Rattle.map.specs.Sound.{sound}
use Rattle.wider.specs.Wider.{wider}

pub record SameUsed (p q : Profile) : Type 0 where
  pub pid : p.pid ≡ q.pid
  pub flags : p.flags ≡ q.flags
  pub count : p.count ≡ q.count
  pub areas : used p ≡ used q

-- A profile with one place set.
abbrev pub with_area : Profile → ℕ → Area → Profile
with_area p at a = record {
  pid = p.pid;
  flags = p.flags;
  count = p.count;
  areas = set p.areas at a;
}

pub unused_place : (p : Profile) (at : ℕ) (a : Area) → p.count ≤ at → SameUsed (with_area p at a) p
unused_place p at a h = record {
  pid = refl;
  flags = refl;
  count = refl;
  areas = take-set-le p.count p.areas at a h;
}

pub sound_alike : (p q : Profile) (octets : ℕ) → SameUsed p q → sound p octets ≡ sound q octets
unfolding sound
sound_alike p q octets s = rw (s.areas, s.pid, s.count)

pub wider_alike : (p q r : Profile) (octets : ℕ) → SameUsed p q → wider p r octets ≡ wider q r octets
unfolding wider
wider_alike p q r octets s =
    rw (sound_alike p q octets s, s.areas, s.pid, s.flags)

pub narrower_alike : (p q r : Profile) (octets : ℕ) → SameUsed p q → wider r p octets ≡ wider r q octets
unfolding wider
narrower_alike p q r octets s =
    rw (sound_alike p q octets s, s.areas, s.pid, s.flags)
