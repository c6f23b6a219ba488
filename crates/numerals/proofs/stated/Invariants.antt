-- `numerals::stated`: what the number so far and the digits that are left state is what all of them do.
use Rattle.std.proofs.Common.{◌≡◌, ◌+◌, ◌≤◌, drop}
use Rattle.numerals.specs.Numbers.{number_most, radix_of, stated_by}
use Rattle.numerals.proofs.Reading.{stated_from}
use Rattle.numerals.proofs.stated.Given as goal

abbrev pub invariant-loop-c : goal.invariant-loop-c
invariant-loop-c l =
    record {
      capped : l.n ≤ number_most + 1;
      stated : stated_from (radix_of l.base) l.n (drop l.c-index l.digits) ≡ stated_by (radix_of l.base) l.digits;
    }
