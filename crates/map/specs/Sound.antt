-- Document 01, "Profile and memory": when a profile is sound over a store, clause by clause.
use Rattle.std.specs.Prelude.{Bool, true, not, ◌&&◌, ◌||◌, List, [], ◌∷◌, ℕ, ◌+◌, ◌%◌, ◌^◌, leb, eqb}
use Rattle.laws.specs.Each.{every}
use Rattle.map.specs.declared.Area.{Area}
use Rattle.map.specs.declared.Profile.{Profile}
use Rattle.map.specs.Place.{areas_most, used, octets_of}

-- The most octets of a store.
abbrev pub store_most : ℕ
store_most = 65536

-- The largest process ID.
abbrev pub pid_most : ℕ
pid_most = 127

-- A store that may be lent: even in length, and at most 65,536 octets.
unfoldable pub store_allowed : ℕ → Bool
store_allowed octets = eqb (octets % 2) 0 && leb octets store_most

-- What an area must meet by itself, over a store of that many octets.
unfoldable pub area_sound : ℕ → Area → Bool
area_sound octets a =
    leb 1 a.length
    && leb (a.start + a.length) (2 ^ 32)
    && leb (octets_of a (a.first + a.length)) octets

-- The store words of an area all come before those of another.
abbrev pub ahead : Area → Area → Bool
ahead a b = leb (a.first + a.length) b.first

-- Two areas share no store word.
unfoldable pub apart : Area → Area → Bool
apart a b = ahead a b || ahead b a

-- What two areas must meet: their memory IDs differ, and they share no store word.
unfoldable pub pair_sound : Area → Area → Bool
pair_sound a b = not (eqb a.id b.id) && apart a b

-- Each area of a list meets each later one.
unfoldable pub every_pair : List Area → Bool
every_pair [] = true
every_pair (a ∷ rest) = every (pair_sound a) rest && every_pair rest

-- A profile is sound over a store of that many octets.
unfoldable pub sound : Profile → ℕ → Bool
sound p octets =
    leb p.pid pid_most
    && leb p.count areas_most
    && every (area_sound octets) (used p)
    && every_pair (used p)
