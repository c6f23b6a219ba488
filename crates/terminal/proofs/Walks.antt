-- A walk over the blocks of a dump, one block at a time: the reports laid.
-- Assumes nothing.
use mathlib.Core.Path.{◌≡◌, sym, ap, ap₂, subst, ◌∙◌}
use mathlib.Core.List.{List, [], ◌∷◌, ◌++◌, map, append-nil}
use Prim.Native.Nat.{ℕ, ◌+◌, ◌*◌, ◌≤◌, ◌<◌}
use native.Mathlib.Omega.{arith}
use lib.ListN.{length, length-append}
use Rattle.std.proofs.lemmas.List.{map-append, length_push}
use Rattle.laws.specs.Each.{Each}
use Rattle.laws.proofs.Each.{each_behind}
use Rattle.blocks.specs.declared.Block.{Block}
use Rattle.map.specs.Place.{dump_words}
use Rattle.blocks.specs.Blocks.{first_place, block_count, blocks_of}
use Rattle.blocks.specs.Form.{blocks_most}
use Rattle.blocks.proofs.Blocks.{Bounds, blocks_length}
use Rattle.blocks.proofs.WellFormed.{head_facts, right_bounds}
use Rattle.requests.specs.declared.Action.TheVariants.{Dump}
use Rattle.requests.specs.Request.{carried_by, most_words}
use Rattle.serving.specs.Services.{Formed}
use Rattle.tm.specs.Frame.{Report}
use Rattle.laying.specs.declared.Sender.{Sender}
use Rattle.laying.specs.declared.Progress.{Progress}
use Rattle.terminal.specs.Act.{dump_most, service_most, Did}
use Rattle.terminal.proofs.Steps.{did_then, did_weaken}

-- A dump has no more blocks than there may be.
blocks_few : (d : List ℕ) → Formed Dump d → length (blocks_of (carried_by Dump) d) ≤ blocks_most
blocks_few d formed = omega (arith, blocks_length (carried_by Dump) d (block_count d) first_place, (head_facts d formed.0).few)

-- Where a block of a dump stands behind others: it has no bad length, and the others are fewer than there may be.
pub next_fits : (d : List ℕ) → Formed Dump d → (passed rest : List Block) (b : Block) → passed ++ b ∷ rest ≡ blocks_of (carried_by Dump) d
    → (b.words ≤ dump_words) × (length passed < blocks_most)
next_fits d formed passed rest b e =
    let bounds : Each (Bounds dump_words (length d)) (blocks_of (carried_by Dump) d) = right_bounds (carried_by Dump) (most_words Dump) d formed.1 in
    let fit = (each_behind (Bounds dump_words (length d)) passed (b ∷ rest) (rw (sym e) at bounds)).0 in
    (fit.most, omega (arith, ap length e, length-append passed (b ∷ rest), blocks_few d formed))

module _ (f : Block → Report) (sender : Sender) (p : Progress) (out : List ℕ) where
  -- One report more.
  pub dumping_next : (q r : Progress) (o₁ o₂ : List ℕ) (passed : List Block) (b : Block)
      → Did (dump_most * length passed) sender p q out o₁ (map f passed) → Did dump_most sender q r o₁ o₂ (f b ∷ [])
      → Did (dump_most * length (passed ++ b ∷ [])) sender p r out o₂ (map f (passed ++ b ∷ []))
  dumping_next q r o₁ o₂ passed b come step =
      let size : dump_most * length passed + dump_most ≡ dump_most * length (passed ++ b ∷ []) = omega (arith, length_push passed b) in
      let both = did_then sender (dump_most * length passed) dump_most p q r out o₁ o₂ (map f passed) (f b ∷ []) come step in
      rw (← size, map-append f passed (b ∷ [])) both

  -- All reports.
  pub dumping_last : (q : Progress) (o₁ : List ℕ) (passed left : List Block) (d : List ℕ) → Formed Dump d → passed ++ left ≡ blocks_of (carried_by Dump) d → left ≡ []
      → Did (dump_most * length passed) sender p q out o₁ (map f passed) → Did service_most sender p q out o₁ (map f (blocks_of (carried_by Dump) d))
  dumping_last q o₁ passed left d formed e none come =
      let same : passed ≡ blocks_of (carried_by Dump) d = sym (append-nil passed) ∙ ap (λ (bs : List Block). passed ++ bs) (sym none) ∙ e in
      let few = blocks_few d formed in
      rw (← same) (did_weaken sender (dump_most * length passed) service_most p q out o₁ (map f passed) (omega (arith, ap length same)) come)
