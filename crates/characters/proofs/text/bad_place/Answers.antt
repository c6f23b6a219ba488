-- `characters::text::bad_place` meets its contract: it is the first place at which a value is no digit's.
use Rattle.std.proofs.Common.{rules, ◌≤◌, ◌<◌, sym, ◌∙◌}
use borrow.Author.Tests.{tests}
use Rattle.std.proofs.lemmas.Iterator.{YieldsList-from_slice, IsFirst-from_position, index_from_first}
use Rattle.characters.specs.Digits.{value_of, bad_place}
use Rattle.characters.proofs.Places.{place_none, place_found, place_pass}
use Rattle.characters.proofs.text.bad_place.Goals as goal

pub returns : goal.returns
returns c =
    let s = c.args.text.now in
    c.unwrap_or.ensures
    ∙ sym
    (index_from_first bad_place (λ x. 16 ≤ value_of x) (λ x. value_of x < 16) place_none place_found place_pass s c.position.result
    (IsFirst-from_position _ _ _ (λ x. 16 ≤ value_of x) (λ x. value_of x < 16) c.position.ensures.ran (YieldsList-from_slice s cc)
    (λ x q k. search (rules, tests)) (λ x q k. search (rules, tests))))
