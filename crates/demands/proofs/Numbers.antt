-- Document 01, "Numbers to hold it to": a single claim that every row of the listing holds, by computation over the definitions.
-- Assumes nothing.
use mathlib.Core.Path.{refl}
use Rattle.laws.specs.Each.{Each}
use Rattle.demands.specs.Listing.{Holds, listing}
use Rattle.demands.proofs.Computing.{all}

-- Every row holds. Ruled out: any definition, and so any program that equals it, that gives another number in one of them.
pub every_row_holds : Each Holds listing
unfolding listing all
every_row_holds =
    (refl, (refl, (refl, (refl, (refl, (refl, (refl, (refl, (refl, (refl, (refl, (refl, (refl, (refl, (refl, (refl, (refl, (refl, (refl, (refl, (refl, (refl, (refl, (refl, (refl, (refl, (refl, (refl, (refl, tt)))))))))))))))))))))))))))))
