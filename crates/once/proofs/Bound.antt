-- The number of an item that stands once is at most as large as it may be.
-- Assumes nothing.
use Rattle.std.proofs.Common.{◌≡◌, ℕ, ◌≤◌, List, Result, Ok, Err, Bool, true, false, cond, drop}
use Rattle.stating.specs.declared.fault.Fault.{Fault}
use Rattle.stating.specs.Stating.{and_then, is_some, number_stated}
use Rattle.stating.proofs.Bound.{number_bound}
use Rattle.once.specs.declared.Rule.{Rule}
use Rattle.once.specs.Once.{sole_stated}

-- A number that is passed on is the one that was stated.
passed_on : (r : Result ℕ Fault) (last : Bool) (form : Fault) {n : ℕ} → Ok n ≡ and_then r (λ k. cond last (Err form) (Ok k)) → Ok n ≡ r
passed_on (Ok k) true form e = absurd (cc)
passed_on (Ok k) false form e = e
passed_on (Err f) last form e = e

pub sole_bound : (earlier : Bool) (rule : Rule) (ws : List (List ℕ)) {n : ℕ} → Ok n ≡ sole_stated earlier rule ws → n ≤ rule.most
unfolding sole_stated
sole_bound true rule ws e = absurd (cc)
sole_bound false rule ws e =
    number_bound rule.most rule.form rule.large ws (passed_on (number_stated rule.most rule.form rule.large ws) (is_some (drop 1 ws)) rule.form e)
