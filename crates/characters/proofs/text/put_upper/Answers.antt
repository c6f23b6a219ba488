-- `characters::text::put_upper` meets its contract: one character more is laid, and at the end what has room is all that is laid.
use Rattle.std.proofs.Common.{◌≡◌, ℕ, ◌-◌, min, length, take, ap, ◌∙◌, arith, length-take}
use Rattle.std.proofs.lemmas.List.{get_or-take}
use Rattle.octets.specs.Copy.{laid}
use Rattle.octets.proofs.Laid.{laid_fitting}
use Rattle.characters.specs.Digits.{upper_text}
use Rattle.characters.proofs.Capitals.{upper_length, upper_next}
use Rattle.characters.proofs.text.put_upper.Goals as goal

pub loop-i-preserved : goal.loop-i-preserved
loop-i-preserved c =
    let l = c.loop-i in
    let s = c.args.digits.now in
    let here = get_or-take c.fitting-count.result s l.i 0 (omega (arith, length-take c.fitting-count.result s)) in
    let next = upper_next c.args.text.now c.args.at s l.i (omega (arith, length-take c.fitting-count.result s)) in
    cc

pub returns : goal.returns
returns c =
    let l = c.loop-i in
    let d = c.args.text.now in
    let s = upper_text c.args.digits.now in
    let all : l.i ≡ min (length s) (length d - c.args.at) = omega (arith, upper_length c.args.digits.now, length-take c.fitting-count.result c.args.digits.now) in
    l.invariant ∙ ap (λ (n : ℕ). laid d c.args.at (take n s)) all ∙ laid_fitting d c.args.at s
