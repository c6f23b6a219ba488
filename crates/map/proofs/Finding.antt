-- Which area has a memory ID.
use Rattle.std.specs.Prelude.{Some, None, Option}
use mathlib.Core.Bool.{true}
use mathlib.Core.Logic.{⊎_elim}
use mathlib.Core.List.Memᴰ
use mathlib.Core.List.{List, [], ◌∷◌, Memᴰ}
use mathlib.Core.Path.{◌≡◌, refl, sym, ap, ◌∙◌}
use Prim.Native.Nat.{ℕ}
use native.Mathlib.Omega.{arith}
use lib.Dec.{eqb}
use borrow.Author.Tests.{eqb-true, eq-eqb, ne_eqb}
use Rattle.map.specs.declared.Area.{Area}
use Rattle.map.specs.declared.Profile.{Profile}
use Rattle.map.specs.Place.{used, find_in}
use Rattle.laws.specs.Each.{every}
use Rattle.map.specs.Sound.{sound, area_sound, apart, pair_sound, every_pair}
use Rattle.laws.proofs.Each.{every_member}
use Rattle.laws.proofs.Tests.{halves, cond_cases}
use Rattle.map.proofs.Soundness.{sound_facts, pair_ids_differ, pair_apart, apart_sym}

pub at_is_not_nothing : (o : Option Area) (a : Area) → o ≡ Some a → o ≡ None → ⊥
at_is_not_nothing o a h k = let z : ◌≡◌ {A = ℕ} 0 1 = cc in omega arith

-- An area that is found is one of those searched, and has the memory ID.
pub found_member : (id : ℕ) (l : List Area) (a : Area) → find_in id l ≡ Some a → Memᴰ a l
unfolding find_in
found_member id [] a h = absurd (at_is_not_nothing None a h refl)
found_member id (x ∷ rest) a h =
    ⊎_elim
    (λ w. Memᴰ.head (cc))
    (λ w. Memᴰ.tail (found_member id rest a w.1))
    (cond_cases (eqb x.id id) (Some x) (find_in id rest) (Some a) h)

pub found_id : (id : ℕ) (l : List Area) (a : Area) → find_in id l ≡ Some a → a.id ≡ id
unfolding find_in
found_id id [] a h = absurd (at_is_not_nothing None a h refl)
found_id id (x ∷ rest) a h =
    ⊎_elim
    (λ w. let e : x ≡ a = cc in ap (λ (b : Area). b.id) (sym e) ∙ eqb-true _ _ w.0)
    (λ w. found_id id rest a w.1)
    (cond_cases (eqb x.id id) (Some x) (find_in id rest) (Some a) h)

-- Where memory IDs differ, each area is the one that is found by its memory ID.
pub member_found : {a : Area} {l : List Area} → Memᴰ a l → every_pair l ≡ true → find_in a.id l ≡ Some a
unfolding find_in every_pair
member_found {a = a} (Memᴰ.head {x} {xs} e) h = rw (eq-eqb x.id a.id (ap (λ (b : Area). b.id) (sym e))) (ap Some (sym e))
member_found {a = a} (Memᴰ.tail {x} {xs} m) h =
    let met : every (pair_sound x) xs ≡ true = search halves in
    rw (ne_eqb x.id a.id (pair_ids_differ x a (every_member (pair_sound x) m met)))
    (member_found m (search halves))

-- In a list without a clash, two areas with different memory IDs share no store word.
pub members_apart :
    (l : List Area) (a b : Area)
    → every_pair l ≡ true
    → Memᴰ a l
    → Memᴰ b l
    → (a.id ≡ b.id → ⊥)
    → apart a b ≡ true
unfolding every_pair
members_apart [] a b h m k d = absurd (Memᴰ.not-nil m)
members_apart (x ∷ rest) a b h m k d =
    let met : every (pair_sound x) rest ≡ true = search halves in
    let here : (c : Area) → Memᴰ c rest → apart x c ≡ true = λ c n. pair_apart x c (every_member (pair_sound x) n met) in
    ⊎_elim
    (λ e. ⊎_elim (λ f. absurd (d (ap (λ (c : Area). c.id) (e ∙ sym f)))) (λ n. rw e (here b n)) (Memᴰ.cases_cons k))
    (λ n. ⊎_elim (λ f. apart_sym b a (rw f (here a n))) (λ o. members_apart rest a b (search halves) n o d) (Memᴰ.cases_cons k))
    (Memᴰ.cases_cons m)

pub found_sound :
    (p : Profile) (octets id : ℕ) (a : Area) → sound p octets ≡ true → find_in id (used p) ≡ Some a → area_sound octets a ≡ true
found_sound p octets id a s h = every_member (area_sound octets) (found_member id (used p) a h) (sound_facts p octets s).areas

-- Areas that are found by two memory IDs in a sound profile share no store word.
pub found_apart :
    (p : Profile) (octets i j : ℕ) (a b : Area)
    → sound p octets ≡ true
    → find_in i (used p) ≡ Some a
    → find_in j (used p) ≡ Some b
    → (i ≡ j → ⊥)
    → apart a b ≡ true
found_apart p octets i j a b s h k d =
    members_apart (used p) a b (sound_facts p octets s).pairs (found_member i (used p) a h) (found_member j (used p) b k)
    (λ e. d (sym (found_id i (used p) a h) ∙ e ∙ found_id j (used p) b k))
