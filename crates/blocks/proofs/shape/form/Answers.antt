-- `blocks::shape::form` meets its contract.
use Rattle.std.proofs.Common.{sym, ◌∙◌, arith}
use Rattle.blocks.specs.Form.{block_fault}
use Rattle.blocks.proofs.Walk.{passed_first, passed_next, passed_stops, passed_last, ends_first, ends_next, ends_last}
use Rattle.blocks.proofs.WellFormed.{form_right, form_over, form_wrong}
use Rattle.blocks.proofs.shape.form.Goals as goal

pub loop-others-init : goal.loop-others-init
loop-others-init c = (passed_first _ _ _ _, ends_first _ _ _)

pub returns-then-not-block_right : goal.returns-then-not-block_right
unfolding block_fault
returns-then-not-block_right c =
    let read = c.block_at-block.ensures in
    let wrong = sym c.block_right.ensures ∙ c.if-not-block_right.true in
    rw c.from.ensures (sym (form_wrong _ _ _ _ (passed_stops _ _ _ _ c.loop-others.others c.loop-others.place c.loop-others.invariant.0 read (omega arith) wrong) (omega arith)))

pub loop-others-preserved : goal.loop-others-preserved
loop-others-preserved c =
    let read = c.block_at-block.ensures in
    let right = sym c.block_right.ensures ∙ c.if-not-block_right.false in (
      passed_next _ _ _ _ c.loop-others.others c.loop-others.place c.loop-others.invariant.0 read (omega arith) right,
      ends_next _ _ _ c.loop-others.others c.loop-others.place c.loop-others.invariant.1 read (omega arith),
    )

pub returns-then-place-application : goal.returns-then-place-application
unfolding block_fault
returns-then-place-application c =
    let end = ends_last _ _ _ c.loop-others.others c.loop-others.place c.loop-others.invariant.1 (omega arith) in
    sym (form_right _ _ _ (passed_last _ _ _ _ c.loop-others.others c.loop-others.place c.loop-others.invariant.0 (omega arith)) (omega arith))

pub returns-else-place-application : goal.returns-else-place-application
unfolding block_fault
returns-else-place-application c =
    let end = ends_last _ _ _ c.loop-others.others c.loop-others.place c.loop-others.invariant.1 (omega arith) in
    sym (form_over _ _ _ (passed_last _ _ _ _ c.loop-others.others c.loop-others.place c.loop-others.invariant.0 (omega arith)) (λ e. omega arith))
