-- `wider::are_covered` meets its contract: `all` says what `every` says.
use Rattle.std.proofs.Common.{rules, sym, ◌∙◌}
use Rattle.std.proofs.lemmas.Iterator.{YieldsList-from_slice}
use Rattle.std.proofs.lemmas.Iterator.Search.{all_from_yields_List}
use borrow.Author.Tests.{tests}
use Rattle.sound.proofs.Whole.{all_every}
use Rattle.wider.specs.Wider.{covered}
use Rattle.wider.proofs.are_covered.Goals as goal

pub returns : goal.returns
returns c =
    all_from_yields_List (covered c.args.wide.now) _ _ _ c.all.ensures.ran (YieldsList-from_slice c.args.narrow.now cc) (λ x b q k. search (rules, tests))
    ∙ sym (all_every _ _)
