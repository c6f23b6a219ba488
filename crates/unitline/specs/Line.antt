-- docs/UNITS.md, "Items": what a line of a unit file adds to the unit, or what is wrong with it.
use Rattle.std.specs.Prelude.{cond, Result, Ok, Err, List, [], ◌∷◌, ℕ, leb}
use Rattle.map.specs.Place.{areas_most}
use Rattle.words.specs.Ascii.{ascii}
use Rattle.words.specs.Words.{words_of, same_text}
use Rattle.stating.specs.declared.fault.Fault.{Fault}
use Rattle.stating.specs.declared.fault.Fault.TheVariants.{NoItem, AreaNinth}
use Rattle.stating.specs.Stating.{and_then}
use Rattle.arealine.specs.Area.{area_stated}
use Rattle.unit.specs.declared.Draft.{Draft}
use Rattle.unit.specs.Unit.{with_area}
use Rattle.once.specs.Once.{pid_stated, services_stated, store_stated}
use Rattle.putting.specs.Putting.{put_stated, put_into}

-- `area ..`: at most 8 times.
abbrev pub ninth_stated : Draft → List (List ℕ) → Result Draft Fault
ninth_stated d ws = cond (leb areas_most d.profile.count) (Err AreaNinth) (and_then (area_stated ws) (λ a. Ok (with_area d a)))

-- What a line's words state, those behind the item by its own rule; a line without words is passed over.
unfoldable pub item_stated : Draft → List (List ℕ) → Result Draft Fault
item_stated d [] = Ok d
item_stated d (item ∷ ws) =
    cond (same_text item (ascii "put")) (put_stated d ws)
    (cond (same_text item (ascii "pid")) (pid_stated d ws)
    (cond (same_text item (ascii "services")) (services_stated d ws)
    (cond (same_text item (ascii "store")) (store_stated d ws)
    (cond (same_text item (ascii "area")) (ninth_stated d ws) (Err NoItem)))))

-- What they put into the store; where something is wrong, nothing.
unfoldable pub item_put : Draft → List ℕ → List (List ℕ) → List ℕ
item_put d store [] = store
item_put d store (item ∷ ws) = cond (same_text item (ascii "put")) (put_into d store ws) store

-- What a line states, and what it puts into the store.
unfoldable pub line_stated : Draft → List ℕ → Result Draft Fault
line_stated d line = item_stated d (words_of line)

unfoldable pub line_put : Draft → List ℕ → List ℕ → List ℕ
line_put d store line = item_put d store (words_of line)
