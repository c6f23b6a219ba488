-- `blocks::reading::first_wrong` meets its contract: `position` finds how many blocks stand before it.
use Rattle.std.proofs.Common.{rules, ap, ◌∙◌, sym, ℕ, ◌+◌}
use borrow.Author.Tests.{tests}
use Rattle.std.specs.Option.{option_map}
use Rattle.blocks.proofs.Walk.{first_found}
use Rattle.blocks.proofs.reading.first_wrong.Goals as goal

pub returns-in_err-others : goal.returns-in_err-others
returns-in_err-others g c =
    c.from_residual.ensures ∙ sym (ap (option_map (λ (k : ℕ). k + 1)) c.in_err-others.was)
    ∙ first_found (g.T.Test.test c.args.test.now) c.blocks-2.result c.position.new.self _ _ _ c.position.ensures.ran c.blocks-2.ensures.all (λ x b q k. search (rules, tests))

pub returns : goal.returns
returns g c =
    sym (ap (option_map (λ (k : ℕ). k + 1)) c.in_ok-others.was)
    ∙ first_found (g.T.Test.test c.args.test.now) c.blocks-2.result c.position.new.self _ _ _ c.position.ensures.ran c.blocks-2.ensures.all (λ x b q k. search (rules, tests))
