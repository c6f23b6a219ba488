-- `Buffers::run` marks nothing as long as it goes on.
use Rattle.std.specs.Prelude.{◌≡◌}
use Rattle.console.specs.declared.Mark.TheVariants.{Fine}
use Rattle.running.specs.Verdicts.{verdict_of}
use Rattle.running.proofs.Buffers.run.Given as goal

abbrev pub invariant-loop : goal.invariant-loop
invariant-loop g l = verdict_of l.task l.fn.desk ≡ Fine → (l.console ≡ l.fn.console) × (verdict_of l.task l.p.desk ≡ Fine)
