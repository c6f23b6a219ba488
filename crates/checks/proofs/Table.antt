-- Laws of tables of checks: a refusal is given exactly when its row is the first that fails; tables joined; two tables side by side.
-- Assumes nothing.
use mathlib.Core.Path.{◌≡◌, refl, sym, ap, ◌∙◌}
use mathlib.Core.Bool.{Bool, true, false, cond, false≢true}
use mathlib.Core.Logic.{◌⊎◌, inl, inr, ⊎_elim}
use mathlib.Core.List.{List, [], ◌∷◌, ◌++◌}
use Rattle.laws.specs.Each.{Each}
use Rattle.laws.proofs.Tests.{by-test}
use Rattle.checks.specs.Table.{Row, answer, First, AllHold}

module _ {A R : Type 0} (fine : A) (refuses : R → A) where
  -- A row that holds is passed.
  pub row-passes : (r : Row R) (rest : List (Row R)) → r.holds ≡ true → answer fine refuses (r ∷ rest) ≡ answer fine refuses rest
  unfolding answer
  row-passes r rest h = rw h refl

  -- A row that fails gives the answer.
  pub row_refuses : (r : Row R) (rest : List (Row R)) → r.holds ≡ false → answer fine refuses (r ∷ rest) ≡ refuses r.refusal
  unfolding answer
  row_refuses r rest h = rw h refl

  -- No row is left.
  pub rows_end : answer fine refuses [] ≡ fine
  unfolding answer
  rows_end = refl

  -- The first row that fails gives the answer.
  pub first_gives : (rows : List (Row R)) (r : Row R) → First rows r → answer fine refuses rows ≡ refuses r.refusal
  unfolding First answer
  first_gives [] r f = absurd f
  first_gives (x ∷ rest) r f =
      ⊎_elim
      (λ (h : (x.holds ≡ false) × (r ≡ x)). rw h.0 (ap (λ (y : Row R). refuses y.refusal) (sym h.1)))
      (λ (h : (x.holds ≡ true) × First rest r). rw h.0 (first_gives rest r h.1))
      f

  -- Where every row holds, the answer is the given one.
  pub all_give : (rows : List (Row R)) → AllHold rows → answer fine refuses rows ≡ fine
  unfolding AllHold answer
  all_give [] h = refl
  all_give (x ∷ rest) h = rw h.0 (all_give rest h.1)

  -- Tables joined: the second gives the answer where every row of the first holds.
  pub answer-append : (xs ys : List (Row R)) → answer fine refuses (xs ++ ys) ≡ answer (answer fine refuses ys) refuses xs
  unfolding answer
  answer-append [] ys = refl
  answer-append (x ∷ xs) ys = ap (λ z. cond x.holds z (refuses x.refusal)) (answer-append xs ys)

  -- Where a test tells every refusal from acceptance, and the answer passes it, every row holds.
  pub accepted-all : (test : A → Bool) → ((r : R) → test (refuses r) ≡ false) → (rows : List (Row R)) → test (answer fine refuses rows) ≡ true → AllHold rows
  unfolding AllHold answer
  accepted-all test tells [] h = tt
  accepted-all test tells (r ∷ rest) h =
      by-test r.holds
      (λ t. (t, accepted-all test tells rest (rw t at h)))
      (λ e. absurd (false≢true (sym (tells r.refusal) ∙ (rw e at h))))

  -- A refusal is the same whatever stands for acceptance.
  pub refused_same : (test : A → Bool) → test fine ≡ true → (v : A) (rows : List (Row R)) → test (answer fine refuses rows) ≡ false → answer v refuses rows ≡ answer fine refuses rows
  unfolding answer
  refused_same test tells v [] h = absurd (false≢true (sym h ∙ tells))
  refused_same test tells v (x ∷ xs) h = by-test x.holds (λ t. rw t (refused_same test tells v xs (rw t at h))) (λ e. rw e refl)

-- Where every row of two tables joined holds, every row of each does.
pub all_append : {R : Type 0} (xs ys : List (Row R)) → AllHold (xs ++ ys) → AllHold xs × AllHold ys
unfolding AllHold
all_append [] ys h = (tt, h)
all_append (x ∷ xs) ys h = let r = all_append xs ys h.1 in ((h.0, r.0), r.1)

-- Every answer comes from all rows holding, or from the first that fails.
pub answer-from : {R : Type 0} (rows : List (Row R)) → AllHold rows ⊎ ((r : Row R) × First rows r)
unfolding AllHold First
answer-from [] = inl tt
answer-from {R = R} (x ∷ rest) =
    by-test x.holds
    (λ t. ⊎_elim (λ h. inl (t, h)) (λ (f : (r : Row R) × First rest r). inr (f.0, inr (t, f.1))) (answer-from rest))
    (λ e. inr (x, inl (e, refl)))

-- What is so of the row at the front where it fails, and of the first of those behind it where it holds, is so of the first row that fails.
pub first_by : {R : Type 0} (P : Row R → Type 0) (x : Row R) (rest : List (Row R)) (r : Row R)
    → (x.holds ≡ false → P x) → (x.holds ≡ true → First rest r → P r) → First (x ∷ rest) r → P r
unfolding First
first_by P x rest r here later f =
    ⊎_elim
    (λ (h : (x.holds ≡ false) × (r ≡ x)). rw h.1 (here h.0))
    (λ (h : (x.holds ≡ true) × First rest r). later h.0 h.1)
    f

-- No row of none fails.
pub first-none : {R X : Type 0} (r : Row R) → First [] r → X
unfolding First
first-none r f = absurd f

-- Tables joined, where every row of the first holds: every row holds where those of the second do, and the first that fails is the second's.
pub all-joined : {R : Type 0} (xs ys : List (Row R)) → AllHold xs → AllHold ys → AllHold (xs ++ ys)
unfolding AllHold
all-joined [] ys h k = k
all-joined (x ∷ xs) ys h k = (h.0, all-joined xs ys h.1 k)

pub first-joined : {R : Type 0} (xs ys : List (Row R)) (r : Row R) → AllHold xs → First ys r → First (xs ++ ys) r
unfolding AllHold First
first-joined [] ys r h f = f
first-joined (x ∷ xs) ys r h f = inr (h.0, first-joined xs ys r h.1 f)

-- The first row of a table that fails is one of its rows, and fails.
pub first-row : {R : Type 0} (P : Row R → Type 0) (table : List (Row R)) (r : Row R) → Each P table → First table r → P r × (r.holds ≡ false)
unfolding First
first-row P [] r all f = absurd f
first-row P (x ∷ rest) r all f =
    ⊎_elim
    (λ (h : (x.holds ≡ false) × (r ≡ x)). rw h.1 (all.0, h.0))
    (λ (h : (x.holds ≡ true) × First rest r). first-row P rest r all.1 h.1)
    f

-- ---- two tables side by side

-- How a row of a wider table stands to its row of a narrower one: it holds where that one does, and, unless it is one of the rows that may part, also only there and with the same refusal.
pub record Grown {R : Type 0} (parts : R → Bool) (narrow wide : Row R) : Type 0 where
  pub grows : narrow.holds ≡ true → wide.holds ≡ true
  pub keeps : parts narrow.refusal ≡ false → (wide.holds ≡ narrow.holds) × (wide.refusal ≡ narrow.refusal)

-- Each row of one table stands so to the row at the same place of the other.
pub data Beside {R : Type 0} (parts : R → Bool) : List (Row R) → List (Row R) → Type 0 where
  none : Beside parts [] []
  more : {n w : Row R} {ns ws : List (Row R)} → Grown parts n w → Beside parts ns ws → Beside parts (n ∷ ns) (w ∷ ws)

module _ {R : Type 0} {parts : R → Bool} where
  -- The same row, where it holds in the one just where it holds in the other.
  pub same_row : {n w : Row R} → w.refusal ≡ n.refusal → w.holds ≡ n.holds → Grown parts n w
  same_row r e = record { grows = λ h. e ∙ h; keeps = λ _. (e, r) }

  -- A row that may part, and that holds in the wider where it holds in the narrower.
  pub parting-row : {n w : Row R} → parts n.refusal ≡ true → (n.holds ≡ true → w.holds ≡ true) → Grown parts n w
  parting-row p g = record { grows = g; keeps = λ q. absurd (false≢true (sym q ∙ p)) }

  pub beside_self : (table : List (Row R)) → Beside parts table table
  beside_self [] = none
  beside_self (r ∷ table) = more (same_row refl refl) (beside_self table)

  pub beside_append : {ns ws ms vs : List (Row R)} → Beside parts ns ws → Beside parts ms vs → Beside parts (ns ++ ms) (ws ++ vs)
  beside_append none rest = rest
  beside_append (more g first) rest = more g (beside_append first rest)

-- Unless the narrower refuses at a row that may part, both tables give the same answer.
pub beside_same : {A R : Type 0} (fine : A) (refuses : R → A) (test : A → Bool) {parts : R → Bool} {ns ws : List (Row R)} → Beside parts ns ws
    → ((r : R) → test (refuses r) ≡ parts r) → test (answer fine refuses ns) ≡ false → answer fine refuses ws ≡ answer fine refuses ns
unfolding answer
beside_same fine refuses test none tells p = refl
beside_same fine refuses test {parts = parts} (more {n = n} {w = w} {ns = ns} {ws = ws} g rest) tells p =
    by-test n.holds
    (λ t. rw (t, g.grows t) (beside_same fine refuses test rest tells (rw t at p)))
    (λ e.
    let p' : parts n.refusal ≡ false = sym (tells n.refusal) ∙ (rw e at p) in
    let k : (w.holds ≡ n.holds) × (w.refusal ≡ n.refusal) = g.keeps p' in
    rw (k.0, e) (ap refuses k.1))
