-- `numerals::digits` calls itself with one digit less to add: the measure is how many they may be.
use Rattle.numerals.proofs.+digits.Given as goal

abbrev pub decreases-digits : goal.decreases-digits
decreases-digits l = l.count
