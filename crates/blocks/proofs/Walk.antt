-- The walk over the blocks: the first that fails a test, found by its place, and where the last one ends.
-- Assumes nothing.
use Rattle.std.specs.Prelude.{Option, Some, None}
use Rattle.std.specs.Option.{option_map}
use Rattle.std.specs.List.{fold, position, position_from}
use Rattle.std.specs.Fn.{Called}
use Rattle.std.specs.Iterator.{YieldsFirst, FindsPosition}
use Rattle.std.proofs.lemmas.Iterator.Consumers.{YieldsList-from_first}
use Rattle.std.proofs.lemmas.Iterator.Search.{position_from_yields_List}
use denote.Param.Members.{Mut}
use Rattle.std.proofs.lemmas.Iterator.Adapters.{position_from-zero}
use mathlib.Core.Path.{◌≡◌, refl, sym, ap, ◌∙◌}
use mathlib.Core.List.{List, [], ◌∷◌, map}
use mathlib.Core.Bool.{Bool, true, false, not}
use Prim.Native.Nat.{ℕ, suc, ◌+◌, ◌-◌, ◌≤◌, ◌<◌}
use native.Mathlib.Nat.{sub-zero}
use lib.Dec.{eqb}
use native.Mathlib.Numerals.{add-one}
use native.Mathlib.Omega.{arith}
use borrow.Author.Tests.{ne_eqb, eqb-true}
use Rattle.std.proofs.lemmas.Bool.{eqb-false}
use Rattle.laws.specs.First.{first_from, first_wrong, wrong_number}
use Rattle.laws.proofs.Tests.{by-test}
use Rattle.blocks.specs.declared.Block.{Block}
use Rattle.blocks.specs.declared.reading.Walk.{Walk}
use Rattle.blocks.specs.Blocks.{first_place, block_at, blocks_from, blocks_left}
use Rattle.blocks.specs.Form.{end_of}

-- The number of the first that fails is one more than how many stand before it.
numbered : (test : Block → Bool) (xs : List Block) (i : ℕ)
    → option_map (λ (k : ℕ). k + 1) (position_from (λ (b : Block). not (test b)) i xs) ≡ wrong_number (first_from (i + 1) (map test xs))
unfolding first_from
numbered test [] i = refl
numbered test (b ∷ rest) i =
    by-test (test b)
    (λ t. rw (t, ← add-one (i + 1)) (numbered test rest (i + 1)))
    (λ w. rw (w, ne_eqb (i + 1) 0 (λ e. omega arith)) refl)

pub first_found : {F : Type 0} {g : Mut F (Block × Unit {0}) Bool} (test : Block → Bool) (walk rest : Walk) (f : F) (blocks : List Block) (r : Option ℕ)
    → FindsPosition (YieldsFirst blocks_left) g walk f r rest → blocks_left walk ≡ blocks
    → ((b : Block) (x : Bool) (q : F) → Called g f (b, tt) x q → (q ≡ f) × (x ≡ not (test b)))
    → option_map (λ (k : ℕ). k + 1) r ≡ wrong_number (first_wrong (map test blocks))
first_found test walk rest f blocks r ran all answers =
    let there : r ≡ position (λ (b : Block). not (test b)) blocks =
    position_from_yields_List (λ (b : Block). not (test b)) rest f r ran (YieldsList-from_first (λ (b : Block). b) blocks_left blocks all) answers in
    ap (option_map (λ (k : ℕ). k + 1)) (there ∙ position_from-zero (λ (b : Block). not (test b)) blocks) ∙ numbered test blocks 0

-- Where the last one ends.
pub end_fold : (place : ℕ) (blocks : List Block) → fold (λ (_ : ℕ) (b : Block). b.next) place blocks ≡ end_of place blocks
unfolding end_of
end_fold place [] = refl
end_fold place (b ∷ rest) = end_fold b.next rest

-- What the number of the first that is wrong tells: which it is, or that there is none.
pub number_some : (n k : ℕ) → Some k ≡ wrong_number n → (n ≡ k) × (1 ≤ k)
number_some n k e =
    by-test (eqb n 0)
    (λ z. let no : Some k ≡ None = rw z at e in absurd cc)
    (λ w.
    let same : Some k ≡ Some n = rw w at e in
    let is : n ≡ k = cc in
    let some : n ≡ 0 → ⊥ = eqb-false n 0 w in
    (is, omega arith))

pub number_none : (n : ℕ) → None ≡ wrong_number n → n ≡ 0
number_none n e =
    by-test (eqb n 0)
    (λ z. eqb-true n 0 z)
    (λ w. let no : None ≡ Some n = rw w at e in absurd cc)

-- ---- the same walk by a count of the blocks passed and the place of the next one: what is left of them, the first that fails a test, and where the last one ends

module _ (carried : ℕ) (d : List ℕ) (n : ℕ) where
  -- The blocks that are left at an index and a place.
  abbrev pub left : ℕ → ℕ → List Block
  left i place = blocks_from carried d (n - i) place

  -- All are left at the start.
  pub left_all : left 0 first_place ≡ blocks_from carried d n first_place
  left_all = ap (λ (m : ℕ). blocks_from carried d m first_place) (sub-zero n)

  -- The next one, and those behind it.
  pub left_step : (i place : ℕ) → i < n → left i place ≡ block_at carried d place ∷ left (i + 1) (block_at carried d place).next
  unfolding blocks_from
  left_step i place h =
      let more : n - i ≡ suc (n - (i + 1)) = omega arith in
      ap (λ (m : ℕ). blocks_from carried d m place) more

  -- None is left at the end.
  pub left_none : (i place : ℕ) → n ≤ i → left i place ≡ []
  unfolding blocks_from
  left_none i place h =
      let none : n - i ≡ 0 = omega arith in
      ap (λ (m : ℕ). blocks_from carried d m place) none

  -- ---- the first that fails a test

  -- The blocks before an index pass a test: the first that fails is that of the blocks that are left.
  abbrev pub Passed : (Block → Bool) → ℕ → ℕ → Type 0
  Passed test i place = first_wrong (map test (blocks_from carried d n first_place)) ≡ first_from (i + 1) (map test (left i place))

  pub passed_first : (test : Block → Bool) → Passed test 0 first_place
  passed_first test = ap (λ (bs : List Block). first_from 1 (map test bs)) (sym left_all)

  module _ (test : Block → Bool) (i place : ℕ) (come : Passed test i place) where
    -- None fails.
    pub passed_last : n ≤ i → first_wrong (map test (blocks_from carried d n first_place)) ≡ 0
    unfolding first_from
    passed_last h = come ∙ rw (left_none i place h) refl

    module _ {b : Block} (read : b ≡ block_at carried d place) (more : i < n) where
      -- Past a block that passes the walk goes on at its end.
      pub passed_next : test b ≡ true → Passed test (i + 1) b.next
      unfolding first_from
      passed_next right = come ∙ rw (left_step i place more, ← read, right, ← add-one (i + 1)) refl

      -- A block that fails is the first.
      pub passed_stops : test b ≡ false → first_wrong (map test (blocks_from carried d n first_place)) ≡ i + 1
      unfolding first_from
      passed_stops wrong = come ∙ rw (left_step i place more, ← read, wrong) refl

  -- ---- where the last one ends

  -- The last block ends where the last of those that are left does.
  abbrev pub Ends : ℕ → ℕ → Type 0
  Ends i place = end_of first_place (blocks_from carried d n first_place) ≡ end_of place (left i place)

  pub ends_first : Ends 0 first_place
  ends_first = ap (end_of first_place) (sym left_all)

  module _ (i place : ℕ) (come : Ends i place) where
    pub ends_last : n ≤ i → end_of first_place (blocks_from carried d n first_place) ≡ place
    unfolding end_of
    ends_last h = come ∙ rw (left_none i place h) refl

    pub ends_next : {b : Block} → b ≡ block_at carried d place → i < n → Ends (i + 1) b.next
    unfolding end_of
    ends_next read more = come ∙ rw (left_step i place more, ← read) refl
