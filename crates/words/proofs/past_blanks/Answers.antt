-- `words::past_blanks` meets its contract: it finds the first character that is no blank.
use Rattle.std.proofs.Common.{◌≡◌, true, false, rules, sym, ◌∙◌, ap, ◌+◌}
use borrow.Author.Tests.{tests}
use Rattle.std.proofs.lemmas.Iterator.{YieldsList-from_slice, IsFirst-from_position, index_from_first}
use Rattle.words.specs.Words.{is_blank, blanks_in}
use Rattle.words.proofs.Fronts.{blanks_none, blanks_stop, blanks_pass}
use Rattle.words.proofs.past_blanks.Goals as goal

pub returns : goal.returns
returns c =
    let s = c.behind-rest.result.now in
    let found = index_from_first blanks_in (λ x. is_blank x ≡ false) (λ x. is_blank x ≡ true) blanks_none blanks_stop blanks_pass s c.position.result
    (IsFirst-from_position _ _ _ (λ x. is_blank x ≡ false) (λ x. is_blank x ≡ true) c.position.ensures.ran (YieldsList-from_slice s cc)
    (λ x q k. search (rules, tests)) (λ x q k. search (rules, tests))) in
    ap (λ n. c.args.at + n) (c.unwrap_or.ensures ∙ sym found ∙ ap blanks_in c.behind-rest.ensures)
