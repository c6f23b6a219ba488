-- docs/UNITS.md, "Items": `put`, what is wrong with it, and the store behind it.
use Rattle.std.specs.Prelude.{cond, Result, Ok, Err, List, ℕ, ◌+◌, drop, leb}
use Rattle.octets.specs.Copy.{laid}
use Rattle.numerals.specs.Numbers.{number_most}
use Rattle.stating.specs.declared.fault.Fault.{Fault}
use Rattle.stating.specs.declared.fault.Fault.TheVariants.{PutEarly, PutForm, PutPast, NumberLarge}
use Rattle.stating.specs.Stating.{and_then, is_some, number_stated, digits_from, octets_stated}
use Rattle.unit.specs.declared.Draft.{Draft}

-- One or more words of octets, wholly inside a store of so many, from a place on: that place.
unfoldable pub octets_put : ℕ → List (List ℕ) → ℕ → Result ℕ Fault
octets_put stored ws to =
    cond (is_some ws)
    (and_then (digits_from 0 ws) (λ count. cond (leb (to + count) stored) (Ok to) (Err PutPast)))
    (Err PutForm)

-- The place from which on octets are put: behind `store`.
unfoldable pub place_put : Draft → List (List ℕ) → Result ℕ Fault
place_put d ws =
    cond d.store
    (and_then (number_stated number_most PutForm NumberLarge ws) (octets_put d.stored (drop 1 ws)))
    (Err PutEarly)

-- `put AT HEX ..`: the unit stays as it is.
abbrev pub put_stated : Draft → List (List ℕ) → Result Draft Fault
put_stated d ws = and_then (place_put d ws) (λ to. Ok d)

-- The store with the octets; where something is wrong, as it was.
abbrev pub laid_from : List ℕ → List (List ℕ) → Result ℕ Fault → List ℕ
laid_from store ws (Ok to) = laid store to (octets_stated ws)
laid_from store ws (Err fault) = store

abbrev pub put_into : Draft → List ℕ → List (List ℕ) → List ℕ
put_into d store ws = laid_from store (drop 1 ws) (place_put d ws)
