-- `numerals::digits` meets its contract: no digit is added, the only one, or the last behind those before it.
use Rattle.numerals.proofs.Decimals.{says_no_digits, says_one_digit, says_more_digits}
use Rattle.numerals.proofs.+digits.Goals as goal

pub returns-then-count-eq0 : goal.returns-then-count-eq0
returns-then-count-eq0 t c = says_no_digits c.args.count c.args.x c.if-count-eq0.true c.kept.ensures

pub returns-then-x-lt10 : goal.returns-then-x-lt10
returns-then-x-lt10 t c = says_one_digit c.args.count c.args.x c.if-count-eq0.false c.if-x-lt10.true c.digit.ensures c.put.ensures

pub returns : goal.returns
returns t c =
    says_more_digits c.args.count c.args.x c.if-count-eq0.false c.if-x-lt10.false c.digit-2.ensures c.digits-front.ensures c.put-2.ensures
