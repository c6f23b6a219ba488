-- The octet that is told of two areas is one that they share, and the first.
-- Assumes nothing.
use mathlib.Core.Bool.{true, cond}
use mathlib.Core.Logic.{⊎_elim}
use mathlib.Core.Path.{◌≡◌}
use Prim.Native.Nat.{ℕ, ◌+◌, ◌<◌}
use native.Mathlib.Omega.{arith}
use lib.Dec.{eqb}
use Rattle.std.specs.Prelude.{Result, Ok, Err}
use Rattle.laws.proofs.Tests.{cond_cases}
use Rattle.map.specs.declared.Area.{Area}
use Rattle.map.specs.Place.{octets_of}
use Rattle.map.specs.Sound.{area_sound, apart}
use Rattle.map.proofs.Soundness.{area_facts}
use Rattle.map.proofs.Octets.{octets_below, meet_octets}
use Rattle.clauses.specs.declared.Clause.{Clause}
use Rattle.clauses.specs.declared.Clause.TheVariants.{SameId, Shared}
use Rattle.clauses.specs.Clauses.{shared_octet, pair_clause, FirstShared}

-- An area of some words ends behind its beginning.
some_octets : (octets : ℕ) (a : Area) → area_sound octets a ≡ true → octets_of a a.first < octets_of a (a.first + a.length)
some_octets octets a s = let f = area_facts octets a s in octets_below a a.first (a.first + a.length) (omega arith)

-- Of two areas that are sound by themselves.
pub shared-first :
    (octets : ℕ) (a b : Area) (i j k : ℕ)
    → area_sound octets a ≡ true
    → area_sound octets b ≡ true
    → pair_clause i a j b ≡ Err (Shared i j k)
    → FirstShared a b k
unfolding pair_clause
shared-first octets a b i j k sa sb h =
    let la = some_octets octets a sa in
    let lb = some_octets octets b sb in
    ⊎_elim
    (λ w. let z : ◌≡◌ {A = ℕ} 0 1 = cc in omega arith)
    (λ w. ⊎_elim
    (λ v. let z : ◌≡◌ {A = ℕ} 0 1 = cc in omega arith)
    (λ v.
    let m = meet_octets a b v.0 in
    let e : shared_octet a b ≡ k = cc in
    record { one = (omega arith, omega arith); other = (omega arith, omega arith); least = λ n x y. omega arith })
    (cond_cases {A = Result Unit Clause} (apart a b) (Ok tt) (Err (Shared i j (shared_octet a b))) (Err (Shared i j k)) w.1))
    (cond_cases {A = Result Unit Clause} (eqb a.id b.id) (Err (SameId i j)) (cond (apart a b) (Ok tt) (Err (Shared i j (shared_octet a b)))) (Err (Shared i j k)) h)
