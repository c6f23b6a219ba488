-- `laying::report_check` meets its contract: the head is laid, and behind it the entries.
-- Assumes nothing.
use Rattle.std.proofs.Common.{◌≡◌, ℕ, ◌+◌, List, length, sym, ap, ◌∙◌, arith, length-append, rules}
use Rattle.octets.specs.Copy.{laid}
use Rattle.octets.proofs.Laid.{laid-append}
use Rattle.blocks.specs.Blocks.{memory_id, block_count, blocks_of}
use Rattle.requests.specs.declared.Action.TheVariants.{Check}
use Rattle.requests.specs.Request.{carried_by}
use Rattle.memory.specs.Memory.{entries_of}
use Rattle.laying.specs.Lays.{stamp_for, check_first}
use Rattle.laying.proofs.Laying.{lays_one}
use Rattle.laying.proofs.Checking.{entries_octets, check_frame, check-first-length}
use Rattle.laying.proofs.report_check.Goals as goal

pub returns : goal.returns
returns c =
    let a = c.args in
    let d : List ℕ = a.application.now in
    let out : List ℕ = a.out.now in
    let at : ℕ = a.p.at in
    let six : length a.sender.time ≡ 6 = search rules in
    let entries : List ℕ = entries_of a.area a.store.now (blocks_of (carried_by Check) d) in
    let first : List ℕ = check_first (stamp_for a.sender a.p.counts 6 10) (memory_id d) (block_count d) in
    let frame = check_frame a.sender a.p.counts a.area d a.store.now in
    let eighteen : length first ≡ 18 = check-first-length (stamp_for a.sender a.p.counts 6 10) (memory_id d) (block_count d) six in
    let head : c.lay_check_head.new.out ≡ laid out at first =
    c.lay_check_head.ensures ∙ (λ i. laid out at (check_first (c.stamp-s.ensures i) (c.memory_id-id.ensures i) (c.block_count-count.ensures i))) in
    lays_one _ _ _ _ _ _ _
    (omega (arith, c.entries-octets.ensures.octets_is, entries_octets a.area d a.store.now, eighteen, length-append first entries, ap length frame))
    c.advance.ensures
    (c.entries-octets.ensures.out_is
    ∙ (λ i. laid (head i) (at + sym eighteen i) entries)
    ∙ laid-append out at first entries
    ∙ ap (λ (f : List ℕ). laid out at f) (sym frame))
