-- `wider::is_covered` meets its contract: `any` says what `covered` says.
use Rattle.std.proofs.Common.{rules, sym, ◌∙◌}
use Rattle.std.proofs.lemmas.Iterator.{YieldsList-from_slice}
use Rattle.std.proofs.lemmas.Iterator.Search.{any_from_yields_List}
use borrow.Author.Tests.{tests}
use Rattle.map.specs.declared.Area.{Area}
use Rattle.wider.specs.Wider.{covers}
use Rattle.wider.proofs.Any.{any_covers}
use Rattle.wider.proofs.is_covered.Goals as goal

pub returns : goal.returns
returns c =
    any_from_yields_List (λ (a : Area). covers a c.args.narrow) _ _ _ c.any.ensures.ran (YieldsList-from_slice c.args.areas.now cc) (λ x b q k. search (rules, tests))
    ∙ sym (any_covers _ _)
