-- `sound::each_sound` meets its contract: `all` says what `every` says.
use Rattle.std.proofs.Common.{rules, sym, ◌∙◌}
use Rattle.std.proofs.lemmas.Iterator.{YieldsList-from_slice}
use Rattle.std.proofs.lemmas.Iterator.Search.{all_from_yields_List}
use borrow.Author.Tests.{tests}
use Rattle.map.specs.Sound.{area_sound}
use Rattle.sound.proofs.Whole.{all_every}
use Rattle.sound.proofs.each_sound.Goals as goal

pub returns : goal.returns
returns c =
    all_from_yields_List (area_sound c.args.octets) _ _ _ c.all.ensures.ran (YieldsList-from_slice c.args.areas.now cc) (λ x b q k. search (rules, tests))
    ∙ sym (all_every _ _)
