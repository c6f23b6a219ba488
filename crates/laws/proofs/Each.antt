-- Laws of `Each`, `every` and `among`.
-- Assumes nothing.
use mathlib.Core.Bool.{Bool, true, false, false≢true}
use mathlib.Core.Logic.{⊎_elim}
use mathlib.Core.List.{List, [], ◌∷◌, ◌++◌, map, Memᴰ}
use mathlib.Core.Path.{◌≡◌, refl, sym, ap, ◌∙◌}
use Prim.Native.Nat.{ℕ}
use lib.Dec.{eqb}
use borrow.Author.Tests.{eqb-true}
use Rattle.laws.specs.Each.{Each, every, among}
use Rattle.laws.proofs.Tests.{halves, or_cases}

-- What follows from a property follows at each element.
pub each_so : {A : Type 0} {P Q : A → Type 0} (xs : List A) → ((x : A) → P x → Q x) → Each P xs → Each Q xs
each_so [] so h = tt
each_so (x ∷ xs) so h = (so x h.0, each_so xs so h.1)

-- Two properties of each element are one.
pub each_both : {A : Type 0} (P Q : A → Type 0) (xs : List A) → Each P xs → Each Q xs → Each (λ (x : A). P x × Q x) xs
each_both P Q [] p q = tt
each_both P Q (x ∷ xs) p q = ((p.0, q.0), each_both P Q xs p.1 q.1)

-- What each of two lists has, each of the two joined has.
pub each_append : {A : Type 0} (P : A → Type 0) (xs ys : List A) → Each P xs → Each P ys → Each P (xs ++ ys)
each_append P [] ys h l = l
each_append P (x ∷ xs) ys h l = (h.0, each_append P xs ys h.1 l)

-- What each element is mapped to has a property, where each element gives it.
pub each_map : {A B : Type 0} (P : B → Type 0) (f : A → B) (xs : List A) → Each (λ (x : A). P (f x)) xs → Each P (map f xs)
each_map P f [] h = tt
each_map P f (x ∷ xs) h = (h.0, each_map P f xs h.1)

-- A test that holds of each element of a list holds of one in it.
pub every_member : {A : Type 0} (test : A → Bool) {a : A} {l : List A} → Memᴰ a l → every test l ≡ true → test a ≡ true
unfolding every
every_member test (Memᴰ.head e) h = rw e (search halves)
every_member test (Memᴰ.tail m) h = every_member test m (search halves)

-- It holds of each, where it holds of whichever is in the list.
pub members_every : {A : Type 0} (test : A → Bool) (l : List A) → ((a : A) → Memᴰ a l → test a ≡ true) → every test l ≡ true
unfolding every
members_every test [] h = refl
members_every test (x ∷ rest) h = rw (h x (Memᴰ.head refl)) (members_every test rest (λ a m. h a (Memᴰ.tail m)))

-- A test that holds of each number of a list holds of one among them.
pub every-among : (test : ℕ → Bool) (n : ℕ) (l : List ℕ) → every test l ≡ true → among n l ≡ true → test n ≡ true
unfolding every among
every-among test n [] h k = absurd (false≢true k)
every-among test n (x ∷ rest) h k =
    ⊎_elim
    (λ e. ap test (eqb-true n x e) ∙ search halves)
    (λ m. every-among test n rest (search halves) m)
    (or_cases (eqb n x) (among n rest) k)

-- What each of a list has, each of its back part has.
pub each_behind : {A : Type 0} (P : A → Type 0) (xs ys : List A) → Each P (xs ++ ys) → Each P ys
each_behind P [] ys h = h
each_behind P (x ∷ xs) ys h = each_behind P xs ys h.1
