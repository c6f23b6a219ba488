-- `characters::text::all_digits` meets its contract: it is told by the greatest value.
use Rattle.std.proofs.Common.{rules, ◌≡◌, max, ltb, ap, ◌∙◌}
use Rattle.std.specs.List.{fold}
use Rattle.characters.specs.Digits.{value_of}
use Rattle.characters.proofs.Greatest.{greatest_tells}
use Rattle.characters.proofs.text.all_digits.Goals as goal

pub returns : goal.returns
returns c =
    let greatest : c.fold-greatest.result ≡ fold (λ m x. max m (value_of x)) 0 c.args.text.now = search rules in
    ap (λ m. ltb m 16) greatest ∙ greatest_tells c.args.text.now
