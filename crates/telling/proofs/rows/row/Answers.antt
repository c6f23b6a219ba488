-- `telling::rows::row` meets its contract: the rows are the parts between newlines.
use Rattle.std.proofs.Common.{rules, ap, ◌∙◌, refl}
use borrow.Author.Tests.{tests}
use Rattle.std.specs.List.{slice_get, slice_split}
use Rattle.std.proofs.lemmas.Iterator.Splits.{YieldsList-from_slice_split}
use Rattle.std.proofs.lemmas.Iterator.Consumers.{nth_from_yields_List}
use Rattle.telling.proofs.Tables.{is_newline, row_found}
use Rattle.telling.proofs.rows.row.Goals as goal

pub returns : goal.returns
returns c =
    let table = c.args.table.now in
    let given = nth_from_yields_List c.nth.result c.nth.new.self c.from.result c.nth.ensures.ran
    (YieldsList-from_slice_split _ is_newline table c.split.ensures.rest c.split.ensures.done c.split.ensures.closure (λ x b q k. search (rules, tests))) in
    ap (λ x. x.now) c.unwrap_or.ensures
    ∙ row_found c.args.number table c.nth.result _ refl (given ∙ ap (λ n. slice_get (slice_split is_newline table) n) c.from.ensures)
