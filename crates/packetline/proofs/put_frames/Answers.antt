-- `packetline::put_frames` meets its contract: a frame's line is said before those that are left, and at the end none is left.
use Rattle.std.proofs.Common.{◌≡◌, ℕ, List, [], length, drop, sym, ap, subst, ◌∙◌, arith}
use Rattle.tm.specs.Frame.{cut}
use Rattle.saying.specs.Text.{Says}
use Rattle.saying.proofs.Saying.{says_none, says_append}
use Rattle.packetline.specs.Packet.{lines_of}
use Rattle.packetline.proofs.Cutting.{lines_next, lines_end}
use Rattle.packetline.proofs.put_frames.Goals as goal

pub loop-from-init : goal.loop-from-init
loop-from-init c =
    record {
      within = omega arith;
      room = omega (arith, c.kept-to.ensures);
      rest = λ r d s. says_append (says_none c.kept-to.ensures) s;
    }

pub loop-from-preserved : goal.loop-from-preserved
loop-from-preserved c =
    let l = c.loop-from in
    let s : List ℕ = c.args.frames.now in
    record {
      within = omega (arith, c.frame_end-end.ensures);
      room = omega (arith, c.line-to.ensures.at_is);
      rest =
          λ r d after.
          l.invariant.rest r d
          (subst (λ (t : List ℕ). Says t l.to l.text r d)
          (sym (lines_next s l.from c.frame_end-end.result c.loop-from-test.true c.frame_end-end.ensures))
          (says_append c.line-to.ensures after));
    }

pub returns : goal.returns
returns c =
    let l = c.loop-from in
    let s : List ℕ = c.args.frames.now in
    let all : l.from ≡ length s = omega arith in
    let none : lines_of (cut (drop l.from s)) ≡ [] = ap (λ (n : ℕ). lines_of (cut (drop n s))) all ∙ lines_end s in
    l.invariant.rest l.to l.text (subst (λ (t : List ℕ). Says t l.to l.text l.to l.text) (sym none) (says_none (omega arith)))
