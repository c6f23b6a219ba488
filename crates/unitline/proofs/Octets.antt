-- A line of a unit file leaves a store of octets one.
-- Assumes nothing.
use Rattle.std.proofs.Common.{ℕ, List, [], ◌∷◌, drop, Result, Ok, Err}
use Rattle.laws.proofs.Tests.{by-test}
use Rattle.octets.specs.Numbers.{Octets}
use Rattle.octets.proofs.Octets.{laid_octets}
use Rattle.words.specs.Ascii.{ascii}
use Rattle.words.specs.Words.{words_of, same_text}
use Rattle.stating.specs.declared.fault.Fault.{Fault}
use Rattle.stating.specs.Stating.{octets_stated}
use Rattle.stating.proofs.Octets.{stated_octets}
use Rattle.unit.specs.declared.Draft.{Draft}
use Rattle.putting.specs.Putting.{place_put, laid_from}
use Rattle.unitline.specs.Line.{item_put, line_put}

from_octets : (store : List ℕ) (ws : List (List ℕ)) (place : Result ℕ Fault) → Octets store → Octets (laid_from store ws place)
from_octets store ws (Ok to) h = laid_octets store to (octets_stated ws) h (stated_octets ws)
from_octets store ws (Err fault) h = h

item_octets : (d : Draft) (store : List ℕ) (ws : List (List ℕ)) → Octets store → Octets (item_put d store ws)
unfolding item_put
item_octets d store [] h = h
item_octets d store (item ∷ ws) h =
    by-test (same_text item (ascii "put"))
    (λ t. rw t (from_octets store (drop 1 ws) (place_put d ws) h))
    (λ e. rw e h)

pub put_octets : (d : Draft) (store line : List ℕ) → Octets store → Octets (line_put d store line)
unfolding line_put
put_octets d store line h = item_octets d store (words_of line) h
