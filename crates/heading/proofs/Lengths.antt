-- What check 1 tells of a packet that passes it, and which packets pass it.
-- Assumes nothing.
use mathlib.Core.Path.{◌≡◌, refl}
use mathlib.Core.Bool.{true, ◌&&◌}
use mathlib.Core.List.{List}
use Prim.Native.Nat.{ℕ, ◌+◌, ◌≤◌}
use lib.ListN.{length}
use lib.Dec.{leb, eqb}
use borrow.Author.Tests.{le-leb, leb-true, eq-eqb}
use Rattle.laws.proofs.Tests.{and_left}
use Rattle.octets.specs.Numbers.{word16}
use Rattle.tc.specs.Layout.{around, packet_most}
use Rattle.heading.specs.Heading.{length_right}

pub length_least : (p : List ℕ) → length_right p ≡ true → around ≤ length p
unfolding length_right
length_least p h =
    leb-true _ _ (and_left (leb around (length p)) (leb (length p) packet_most)
    (and_left (leb around (length p) && leb (length p) packet_most) (eqb (length p) (word16 p 4 + 7)) h))

pub length_right_lem : (p : List ℕ) → around ≤ length p → length p ≤ packet_most → length p ≡ word16 p 4 + 7 → length_right p ≡ true
unfolding length_right
length_right_lem p least most e = rw (le-leb _ _ least, le-leb _ _ most, eq-eqb (length p) (word16 p 4 + 7) e) refl
