-- `words::past_word` meets its contract: it finds the first character that is none of a word.
use Rattle.std.proofs.Common.{◌≡◌, true, false, eqb, ◌||◌, rules, sym, ◌∙◌, ap, ◌+◌}
use borrow.Author.Tests.{tests}
use Rattle.std.proofs.lemmas.Iterator.{YieldsList-from_slice, IsFirst-from_position, index_from_first}
use Rattle.words.specs.Words.{hash, is_blank, plain_in}
use Rattle.words.proofs.Fronts.{plain_none, plain_stop, plain_pass}
use Rattle.words.proofs.past_word.Goals as goal

pub returns : goal.returns
returns c =
    let s = c.behind-rest.result.now in
    let found = index_from_first plain_in (λ x. (eqb x hash || is_blank x) ≡ true) (λ x. (eqb x hash || is_blank x) ≡ false) plain_none plain_stop plain_pass s c.position.result
    (IsFirst-from_position _ _ _ (λ x. (eqb x hash || is_blank x) ≡ true) (λ x. (eqb x hash || is_blank x) ≡ false) c.position.ensures.ran (YieldsList-from_slice s cc)
    (λ x q k. search (rules, tests)) (λ x q k. search (rules, tests))) in
    ap (λ n. c.args.at + n) (c.unwrap_or.ensures ∙ sym found ∙ ap plain_in c.behind-rest.ensures)
