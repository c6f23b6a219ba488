-- `stating::Words::lay` meets its contract: what the next word lays into the store.
use Rattle.std.proofs.Common.{◌≤◌, length, ◌∙◌, arith}
use Rattle.stating.proofs.Steps.{lay_next}
use Rattle.stating.proofs.Words.lay.Goals as goal

pub loop-word-preserved : goal.loop-word-preserved
loop-word-preserved c =
    let room : length c.decode.new.octets ≤ 18446744073709551615 = omega arith in
    (tt, tt, lay_next c.loop-word.store c.loop-word.put 18446744073709551615 c.in-Some.ensures.steps c.decode.ensures room c.saturating_add-put.ensures ∙ c.loop-word.invariant.2)
