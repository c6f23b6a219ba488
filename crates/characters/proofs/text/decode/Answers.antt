-- `characters::text::decode` meets its contract: one octet more is laid, and at the end all that have room.
use Rattle.std.proofs.Common.{ℕ, length, take, ap, ◌∙◌, ◌≡◌, min, ◌-◌, arith, length-take}
use Rattle.octets.specs.Copy.{laid}
use Rattle.octets.proofs.Laid.{laid_fitting}
use Rattle.characters.specs.Digits.{octets_in}
use Rattle.characters.proofs.Texts.{octets_next, octets_length}
use Rattle.characters.proofs.text.decode.Goals as goal

pub loop-i-preserved : goal.loop-i-preserved
loop-i-preserved c =
    let l = c.loop-i in
    let pairs = c.as_chunks.result.0.now in
    let size = length-take c.fitting-count.result pairs in
    rw l.invariant
    (octets_next c.args.octets.now c.args.at c.args.text.now l.i c.fitting-count.result pairs c.as_chunks.ensures.front (omega arith) (omega arith) c.octet.ensures)

pub returns : goal.returns
returns c =
    let l = c.loop-i in
    let s = octets_in c.args.text.now in
    let d = c.args.octets.now in
    let all : l.i ≡ min (length s) (length d - c.args.at) = omega (arith, octets_length c.args.text.now, length-take c.fitting-count.result c.as_chunks.result.0.now) in
    l.invariant ∙ ap (λ (n : ℕ). laid d c.args.at (take n s)) all ∙ laid_fitting d c.args.at s
