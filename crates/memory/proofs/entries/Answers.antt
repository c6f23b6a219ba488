-- `memory::entries` meets its contract, entry by entry.
use Rattle.std.proofs.Common.{arith, ◌≡◌, ap, ◌∙◌, length}
use Rattle.octets.specs.Copy.{laid}
use Rattle.memory.proofs.Walking.{entries_next}
use Rattle.memory.proofs.entries.Goals as goal

pub loop-block-preserved : goal.loop-block-preserved
loop-block-preserved c =
    let long : c.put-octets.result ≡ 8 = c.put-octets.ensures.0 ∙ ap length c.entry-entry.ensures in
    let step = c.in-Some.ensures.steps in
    record {
      eight = omega (arith, ap length step);
      laid_is =
          entries_next _ _ _ _ _ _ _ _ _ step (c.put-octets.ensures.1 ∙ ap (laid _ _) c.entry-entry.ensures) (omega arith)
          ∙ c.loop-block.invariant.laid_is;
    }
