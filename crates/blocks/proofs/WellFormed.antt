-- Laws of the form of service 6 data: what the tests of the head and of the blocks tell, and when each form is given.
-- Assumes nothing.
use Rattle.std.specs.Prelude.{Ok, Err}
use mathlib.Core.Path.{◌≡◌, refl, ap}
use mathlib.Core.List.{List}
use mathlib.Core.Bool.{true, ◌&&◌, false≢true}
use Prim.Native.Nat.{ℕ, ◌*◌, ◌≤◌}
use native.Mathlib.Omega.{arith}
use lib.ListN.{length}
use lib.Dec.{leb, eqb}
use borrow.Author.Tests.{leb-true, eqb-true, eq-eqb, ne_eqb}
use Rattle.laws.specs.Each.{Each}
use Rattle.laws.proofs.Each.{each_so, each_both}
use Rattle.laws.proofs.First.{none_each}
use Rattle.laws.proofs.Tests.{by-test, both}
use Rattle.blocks.specs.declared.Block.{Block}
use Rattle.blocks.specs.Blocks.{first_place, block_count, blocks_of, words_of}
use Rattle.blocks.specs.Form.{blocks_most, block_right, head_right, block_fault, end_of, exact, form_of, is_right}
use Rattle.blocks.proofs.Blocks.{Bounds, block_bounds, blocks_read, words_length}

-- ---- the head

-- What the head tells.
pub record HeadFacts (d : List ℕ) : Type 0 where
  pub long : first_place ≤ length d
  pub some : 1 ≤ block_count d
  pub few : block_count d ≤ blocks_most

pub head_facts : (d : List ℕ) → head_right d ≡ true → HeadFacts d
unfolding head_right
head_facts d right =
    let s2 = both (leb first_place (length d) && leb 1 (block_count d)) (leb (block_count d) blocks_most) right in
    let s1 = both (leb first_place (length d)) (leb 1 (block_count d)) s2.0 in
    record { long = leb-true _ _ s1.0; some = leb-true _ _ s1.1; few = leb-true _ _ s2.1 }

-- ---- when each form is given

pub form_right : (carried most : ℕ) (d : List ℕ) → block_fault carried most d ≡ 0 → end_of first_place (blocks_of carried d) ≡ length d → form_of carried most d ≡ Ok tt
unfolding form_of exact
form_right carried most d fault end = rw (eq-eqb (block_fault carried most d) 0 fault, eq-eqb (end_of first_place (blocks_of carried d)) (length d) end) refl

pub form_over : (carried most : ℕ) (d : List ℕ) → block_fault carried most d ≡ 0 → (end_of first_place (blocks_of carried d) ≡ length d → ⊥) → form_of carried most d ≡ Err 0
unfolding form_of exact
form_over carried most d fault end = rw (eq-eqb (block_fault carried most d) 0 fault, ne_eqb (end_of first_place (blocks_of carried d)) (length d) end) refl

pub form_wrong : (carried most : ℕ) (d : List ℕ) (k : ℕ) → block_fault carried most d ≡ k → 1 ≤ k → form_of carried most d ≡ Err k
unfolding form_of
form_wrong carried most d k fault some =
    let other : block_fault carried most d ≡ 0 → ⊥ = λ e. omega arith in
    rw (ne_eqb (block_fault carried most d) 0 other) (ap Err fault)

-- Data whose blocks are right has no block at fault, and they end where the data ends.
pub right_from : (carried most : ℕ) (d : List ℕ) → is_right (form_of carried most d) ≡ true → (block_fault carried most d ≡ 0) × (end_of first_place (blocks_of carried d) ≡ length d)
unfolding form_of exact
right_from carried most d e =
    by-test (eqb (block_fault carried most d) 0)
    (λ f.
    by-test (eqb (end_of first_place (blocks_of carried d)) (length d))
    (λ x. (eqb-true _ _ f, eqb-true _ _ x))
    (λ x. absurd (false≢true (rw (f, x) at e))))
    (λ f. absurd (false≢true (rw f at e)))

-- ---- what well formed data gives

module _ (carried most : ℕ) (d : List ℕ) (right : is_right (form_of carried most d) ≡ true) where
  right_blocks : Each (λ (b : Block). block_right most (length d) b ≡ true) (blocks_of carried d)
  unfolding block_fault
  right_blocks = none_each (block_right most (length d)) (blocks_of carried d) 1 (omega arith) (right_from carried most d right).0

  -- No block is too long.
  pub right_bounds : Each (Bounds most (length d)) (blocks_of carried d)
  right_bounds = each_so (blocks_of carried d) (block_bounds most (length d)) right_blocks

  -- The words of each block are all there.
  pub right_words : Each (λ (b : Block). length (words_of d b) ≡ b.words * carried) (blocks_of carried d)
  right_words =
      each_so (blocks_of carried d)
      (λ b h. words_length carried most d b h.1.0 h.0 h.1.1)
      (each_both _ _ (blocks_of carried d) right_blocks (blocks_read carried d (block_count d) first_place))
