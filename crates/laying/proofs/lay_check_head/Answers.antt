-- `laying::lay_check_head` meets its contract: the head is laid, and behind it the memory ID and N.
-- Assumes nothing.
use Rattle.std.proofs.Common.{◌≡◌, ℕ, ◌+◌, ◌*◌, List, length, sym, ap, ◌∙◌, rules}
use Rattle.octets.specs.Copy.{laid}
use Rattle.octets.proofs.Laid.{laid-append}
use Rattle.tm.specs.Frame.{frame_head, head_of}
use Rattle.tm.proofs.Frame.{head_length}
use Rattle.reports.specs.Source.{check_head}
use Rattle.laying.specs.Lays.{check_first}
use Rattle.laying.proofs.lay_check_head.Goals as goal

pub returns : goal.returns
unfolding check_first
returns c =
    let a = c.args in
    let out : List ℕ = a.out.now in
    let h : List ℕ = head_of a.stamp (a.count * 8 + 2) in
    let six : length a.stamp.time ≡ 6 = search rules in
    let sixteen : length h ≡ frame_head = head_length a.stamp (a.count * 8 + 2) six in
    let first : c.put.new.buffer ≡ laid out a.at h = c.put.ensures.1 ∙ ap (λ (x : List ℕ). laid out a.at x) c.head-head.ensures in
    c.put-2.ensures.1
    ∙ (λ i. laid (first i) (a.at + sym sixteen i) (check_head a.memory a.count))
    ∙ laid-append out a.at h (check_head a.memory a.count)
