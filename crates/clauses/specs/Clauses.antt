-- docs/UNITS.md, "A unit that is not sound": the first clause of soundness that fails, and for which areas.
use Rattle.std.specs.Prelude.{cond, List, [], ◌∷◌, Result, Ok, Err, ℕ, suc, ◌+◌, ◌%◌, ◌^◌, ◌≤◌, ◌<◌, max, leb, eqb}
use Rattle.map.specs.declared.Area.{Area}
use Rattle.map.specs.declared.Profile.{Profile}
use Rattle.map.specs.Place.{areas_most, used, octets_of}
use Rattle.map.specs.Sound.{store_most, pid_most, apart}
use Rattle.clauses.specs.declared.Clause.{Clause}
use Rattle.clauses.specs.declared.Clause.TheVariants.{OddStore, LongStore, Pid, Count, NoWords, PastTop, PastStore, SameId, Shared}

-- The first of two clauses that fails.
abbrev pub first : Result Unit Clause → Result Unit Clause → Result Unit Clause
first (Ok _) later = later
first (Err c) later = Err c

-- What an area must meet by itself: at least one word, its last address below 2^32, its last word in the store.
unfoldable pub own_clause : ℕ → ℕ → Area → Result Unit Clause
own_clause octets i a =
    cond (leb 1 a.length)
    (cond (leb (a.start + a.length) (2 ^ 32))
    (cond (leb (octets_of a (a.first + a.length)) octets) (Ok tt) (Err (PastStore i)))
    (Err (PastTop i)))
    (Err (NoWords i))

-- The first octet of the store that two areas share, if they share one: the later of the two beginnings.
abbrev pub shared_octet : Area → Area → ℕ
shared_octet a b = max (octets_of a a.first) (octets_of b b.first)

-- What two areas must meet: their memory IDs differ, and they share no octet of the store.
unfoldable pub pair_clause : ℕ → Area → ℕ → Area → Result Unit Clause
pair_clause i a j b =
    cond (eqb a.id b.id) (Err (SameId i j))
    (cond (apart a b) (Ok tt) (Err (Shared i j (shared_octet a b))))

-- Some areas by themselves, counted on from one.
unfoldable pub own_from : ℕ → ℕ → List Area → Result Unit Clause
own_from octets i [] = Ok tt
own_from octets i (a ∷ rest) = first (own_clause octets i a) (own_from octets (suc i) rest)

-- An area with each of some later ones, counted on from one.
unfoldable pub later_from : ℕ → Area → ℕ → List Area → Result Unit Clause
later_from i a j [] = Ok tt
later_from i a j (b ∷ rest) = first (pair_clause i a j b) (later_from i a (suc j) rest)

-- Each of some areas with each later one, counted on from one.
unfoldable pub pairs_from : ℕ → List Area → Result Unit Clause
pairs_from i [] = Ok tt
pairs_from i (a ∷ rest) = first (later_from i a (suc i) rest) (pairs_from (suc i) rest)

-- The first clause that fails: of the store, of the PID and the count of areas, of one area, of two.
unfoldable pub clause_of : Profile → ℕ → Result Unit Clause
clause_of p octets =
    cond (eqb (octets % 2) 0)
    (cond (leb octets store_most)
    (cond (leb p.pid pid_most)
    (cond (leb p.count areas_most)
    (first (own_from octets 1 (used p)) (pairs_from 1 (used p)))
    (Err Count))
    (Err Pid))
    (Err LongStore))
    (Err OddStore)

-- An octet of the store lies in a word of an area.
abbrev pub On : Area → ℕ → Type 0
On a k = (octets_of a a.first ≤ k) × (k < octets_of a (a.first + a.length))

-- An octet of the store is the first that two areas share.
pub record FirstShared (a b : Area) (k : ℕ) : Type 0 where
  pub one : On a k
  pub other : On b k
  pub least : (n : ℕ) → On a n → On b n → k ≤ n
