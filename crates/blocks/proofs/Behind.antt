-- The block behind so many others: it begins in the application data, and the first of N that fails a test is the one with its number.
-- Assumes nothing.
use mathlib.Core.Path.{◌≡◌, refl, sym, ap, subst, ◌∙◌}
use mathlib.Core.Bool.{Bool, true, false}
use mathlib.Core.List.{List, map}
use Prim.Native.Nat.{ℕ, zero, suc, ◌+◌, min, ◌≤◌, ◌<◌}
use native.Mathlib.Numerals.{add-one}
use native.Mathlib.Omega.{arith}
use lib.ListN.{length}
use Rattle.laws.specs.Each.{Each}
use Rattle.laws.specs.First.{first_from, first_wrong}
use Rattle.laws.proofs.Order.{by_order}
use Rattle.laws.proofs.Tests.{by-test}
use Rattle.octets.specs.Numbers.{word16, word32}
use Rattle.blocks.specs.declared.Block.{Block}
use Rattle.blocks.specs.Blocks.{first_place, block_at, blocks_from, block_behind}

module _ (carried : ℕ) (d : List ℕ) where
  -- It is read at some place.
  pub behind_read : (n : ℕ) → (place : ℕ) × (block_behind carried d n ≡ block_at carried d place)
  unfolding block_behind
  behind_read zero = (first_place, refl)
  behind_read (suc n) = ((block_behind carried d n).next, refl)

  pub behind_first : block_at carried d first_place ≡ block_behind carried d 0
  unfolding block_behind
  behind_first = refl

  pub behind_next : {b : Block} (i : ℕ) → b ≡ block_behind carried d i → block_at carried d b.next ≡ block_behind carried d (i + 1)
  unfolding block_behind
  behind_next i e = ap (λ (x : Block). block_at carried d x.next) e ∙ ap (block_behind carried d) (sym (add-one i))

  -- It begins in the application data, or at its end.
  pub behind_at : (n : ℕ) → (block_behind carried d n).at ≤ length d
  unfolding block_at
  behind_at n =
      let r = behind_read n in
      omega (arith, ap (λ (b : Block). b.at) r.1)

  -- Its start and its length are the numbers that stand there.
  pub behind_fields : (n : ℕ) → (let b : Block = block_behind carried d n in (b.start ≡ word32 d b.at) × (b.words ≡ word16 d (b.at + 4)))
  unfolding block_at
  behind_fields n =
      let r = behind_read n in
      let at : (block_behind carried d n).at ≡ min r.0 (length d) = ap (λ (b : Block). b.at) r.1 in (
        ap (λ (b : Block). b.start) r.1 ∙ ap (word32 d) (sym at),
        ap (λ (b : Block). b.words) r.1 ∙ ap (λ (n : ℕ). word16 d (n + 4)) (sym at),
      )

  -- ---- the first that fails a test

  -- What is known of the block behind k others, where it is the first that fails a test from the one behind i on, and each block has something.
  pub record Stopped (P : Block → Type 0) (test : Block → Bool) (i k : ℕ) : Type 0 where
    pub has : P (block_behind carried d k)
    pub fails : test (block_behind carried d k) ≡ false
    pub before : (j : ℕ) → i ≤ j → j < k → test (block_behind carried d j) ≡ true

  stops : (P : Block → Type 0) (test : Block → Bool) (m i place k : ℕ) → block_at carried d place ≡ block_behind carried d i → Each P (blocks_from carried d m place)
      → first_from (i + 1) (map test (blocks_from carried d m place)) ≡ k + 1 → Stopped P test i k
  unfolding blocks_from first_from
  stops P test zero i place k at each e = absurd (omega arith)
  stops P test (suc m) i place k at each e =
      by-test (test (block_at carried d place))
      (λ t.
      let next : ℕ = (block_at carried d place).next in
      let later : first_from (suc (i + 1)) (map test (blocks_from carried d m next)) ≡ k + 1 = rw t at e in
      let more : first_from (i + 1 + 1) (map test (blocks_from carried d m next)) ≡ k + 1 = ap (λ (n : ℕ). first_from n (map test (blocks_from carried d m next))) (add-one (i + 1)) ∙ later in
      let rest : Stopped P test (i + 1) k = stops P test m (i + 1) next k (behind_next i at) each.1 more in
      record {
        has = rest.has;
        fails = rest.fails;
        before = λ j h l.
            by_order (i + 1) j
            (λ far. rest.before j far l)
            (λ near. let same : j ≡ i = omega arith in ap (λ (n : ℕ). test (block_behind carried d n)) same ∙ ap test (sym at) ∙ t);
      })
      (λ w.
      let number : i + 1 ≡ k + 1 = rw w at e in
      let same : i ≡ k = omega arith in
      let here : block_at carried d place ≡ block_behind carried d k = at ∙ ap (block_behind carried d) same in
      record {
        has = subst P here each.0;
        fails = ap test (sym here) ∙ w;
        before = λ j h l. absurd (omega arith);
      })

  -- The first of N blocks that fails a test is the one behind so many others, and those before it pass.
  pub first_behind : (P : Block → Type 0) (test : Block → Bool) (n k : ℕ) → Each P (blocks_from carried d n first_place)
      → first_wrong (map test (blocks_from carried d n first_place)) ≡ k + 1 → Stopped P test 0 k
  first_behind P test n k each e = stops P test n 0 first_place k behind_first each e
