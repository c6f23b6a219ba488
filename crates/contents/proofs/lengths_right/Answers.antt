-- `contents::lengths_right` meets its contract: it looks at the entry of each number.
-- Assumes nothing.
use Rattle.std.proofs.Common.{refl, ◌∙◌, ℕ, arith, rules}
use Rattle.std.proofs.lemmas.Iterator.{YieldsList-from_range}
use Rattle.std.proofs.lemmas.Iterator.Search.{all_from_yields_List}
use borrow.Author.Tests.{tests}
use lib.Dec.{leb}
use Rattle.contents.specs.Source.{entry_at}
use Rattle.contents.proofs.Forms.{lengths_all}
use Rattle.contents.proofs.lengths_right.Goals as goal

pub returns : goal.returns
returns c =
    let s = c.args.entries.now in
    all_from_yields_List (λ (k : ℕ). leb 1 (entry_at s k).length) _ _ c.all.result c.all.ensures.ran
    (YieldsList-from_range 0 c.args.blocks c.args.blocks refl (omega arith))
    (λ x b q k. search (rules, tests))
    ∙ lengths_all c.args.blocks s
