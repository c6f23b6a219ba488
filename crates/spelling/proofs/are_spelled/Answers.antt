-- `spelling::are_spelled` meets its contract: each octet is set beside its pair of characters.
use Rattle.std.proofs.Common.{rules, length, ◌/◌, ap, ◌∙◌, arith}
use borrow.Author.Tests.{tests}
use Rattle.std.specs.List.{list_all, zip}
use Rattle.std.proofs.lemmas.Iterator.{YieldsList-from_slice, YieldsList-from_zip}
use Rattle.std.proofs.lemmas.Iterator.Search.{all_from_yields_List}
use Rattle.spelling.proofs.Walking.{spelled_by, spelled_pairs}
use Rattle.spelling.proofs.are_spelled.Goals as goal

pub returns : goal.returns
returns c =
    let octets = c.args.octets.now in
    let text = c.args.text.now in
    all_from_yields_List spelled_by c.all.new.self _ c.all.result c.all.ensures.ran
    (YieldsList-from_zip (YieldsList-from_slice octets cc) (YieldsList-from_slice c.as_chunks.result.0.now cc)) (λ x b q k. search (rules, tests))
    ∙ ap (λ r. list_all spelled_by (zip octets r)) c.as_chunks.ensures.front
    ∙ spelled_pairs octets text (length text / 2) (omega arith) c.requires
