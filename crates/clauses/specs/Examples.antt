-- Worked examples of docs/UNITS.md, "A unit that is not sound", by computation.
use Rattle.std.specs.Prelude.{List, [], ◌∷◌, ◌≡◌, refl, Result, Ok, Err, ℕ, ◌-◌, ◌^◌}
use Rattle.map.specs.declared.Area.{Area}
use Rattle.map.specs.Examples.{p8}
use Rattle.map.specs.Made.{all_flags, area_of, profile_with}
use Rattle.map.specs.Place.{word_octets, octets_of}
use Rattle.map.specs.Sound.{apart}
use Rattle.clauses.specs.declared.Clause.{Clause}
use Rattle.clauses.specs.declared.Clause.TheVariants.{OddStore, Pid, NoWords, PastTop, PastStore, SameId, Shared}
use Rattle.clauses.specs.Clauses.{own_clause, pair_clause, own_from, later_from, pairs_from, clause_of}

-- What is told of a profile with every service, that PID and those areas.
abbrev told : ℕ → List Area → ℕ → Result Unit Clause
told pid areas octets = clause_of (profile_with pid all_flags areas) octets

-- P9: two areas at store words 0 to 63 and 63 to 70 share a word, which is octets 126 and 127.
pub p9_shared : told 1 (p8 ∷ area_of 2 0 8 63 ∷ []) 256 ≡ Err (Shared 1 2 126)
unfolding clause_of own_from own_clause pairs_from later_from pair_clause apart octets_of word_octets
p9_shared = refl

pub p9_not_shared : told 1 (p8 ∷ area_of 2 0 8 64 ∷ []) 256 ≡ Ok tt
unfolding clause_of own_from own_clause pairs_from later_from pair_clause apart octets_of word_octets
p9_not_shared = refl

pub pid_128 : told 128 (p8 ∷ []) 128 ≡ Err Pid
unfolding clause_of
pid_128 = refl

-- An odd store is told before a PID above 127.
pub odd_store : told 128 (p8 ∷ []) 129 ≡ Err OddStore
unfolding clause_of
odd_store = refl

-- What one area fails is told before what two fail: the second has no words, and shares its memory ID with the first.
pub no_words : told 1 (p8 ∷ area_of 1 0 0 64 ∷ []) 256 ≡ Err (NoWords 2)
unfolding clause_of own_from own_clause octets_of word_octets
no_words = refl

pub past_the_top : told 1 (area_of 1 (2 ^ 32 - 63) 64 0 ∷ []) 128 ≡ Err (PastTop 1)
unfolding clause_of own_from own_clause
past_the_top = refl

pub past_the_store : told 1 (p8 ∷ area_of 2 0 8 64 ∷ []) 142 ≡ Err (PastStore 2)
unfolding clause_of own_from own_clause octets_of word_octets
past_the_store = refl

pub same_id : told 1 (p8 ∷ area_of 2 0 8 64 ∷ area_of 2 0 8 72 ∷ []) 256 ≡ Err (SameId 2 3)
unfolding clause_of own_from own_clause pairs_from later_from pair_clause apart octets_of word_octets
same_id = refl

-- What the first area fails with a later one is told before what the second fails with the third.
pub first_area_first : told 1 (p8 ∷ area_of 2 0 8 64 ∷ area_of 2 0 8 63 ∷ []) 256 ≡ Err (Shared 1 3 126)
unfolding clause_of own_from own_clause pairs_from later_from pair_clause apart octets_of word_octets
first_area_first = refl
