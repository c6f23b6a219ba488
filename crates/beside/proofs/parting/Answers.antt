-- `beside::parting` meets its contract: the two part at a place, further on, or where one of them ends.
use Rattle.std.proofs.Common.{◌≡◌, ◌<◌, ◌/◌, length, arith, sym, ◌∙◌, length-take}
use Rattle.std.proofs.lemmas.List.{get_or-take}
use Rattle.characters.specs.Digits.{octets_in}
use Rattle.characters.proofs.Texts.{octets_length, pair_octet}
use Rattle.beside.proofs.Places.{parts_here, parts_later, parts_end}
use Rattle.beside.proofs.parting.Goals as goal

pub returns-then-parts : goal.returns-then-parts
returns-then-parts c =
    let due = c.args.due.now in
    let line = c.args.line.now in
    let k = c.loop-k.k in
    let in_most : k < c.min-most.result = omega (arith, length-take c.min-most.result due) in
    let in_line : k < length line / 2 = omega (arith, c.min-most.ensures) in
    parts_here due (octets_in line) k (omega (arith, c.min-most.ensures)) (omega (arith, octets_length line))
    (get_or-take c.min-most.result due k 0 in_most) (c.octet.ensures ∙ pair_octet line c.as_chunks.ensures.front k in_line)
    (sym c.parts.ensures ∙ c.if-parts.true) ∙ c.loop-k.invariant

pub loop-k-preserved : goal.loop-k-preserved
loop-k-preserved c =
    let due = c.args.due.now in
    let line = c.args.line.now in
    let k = c.loop-k.k in
    let in_most : k < c.min-most.result = omega (arith, length-take c.min-most.result due) in
    let in_line : k < length line / 2 = omega (arith, c.min-most.ensures) in
    parts_later due (octets_in line) k (omega (arith, c.min-most.ensures)) (omega (arith, octets_length line))
    (get_or-take c.min-most.result due k 0 in_most) (c.octet.ensures ∙ pair_octet line c.as_chunks.ensures.front k in_line)
    (sym c.parts.ensures ∙ c.if-parts.false) ∙ c.loop-k.invariant

pub returns : goal.returns
returns c =
    let k = c.loop-k.k in
    let all : c.min-most.result ≡ k = omega (arith, length-take c.min-most.result c.args.due.now) in
    all ∙ parts_end c.args.due.now (octets_in c.args.line.now) k (omega (arith, octets_length c.args.line.now)) ∙ c.loop-k.invariant
