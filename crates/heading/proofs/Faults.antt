-- The first wrong field of a header, one after the other.
-- Assumes nothing.
use mathlib.Core.Path.{◌≡◌}
use mathlib.Core.Bool.{false}
use mathlib.Core.List.{List}
use Prim.Native.Nat.{ℕ}
use lib.Dec.{eqb}
use Rattle.laws.specs.First.{first_from}
use Rattle.laws.proofs.Tests.{by-test}
use Rattle.octets.specs.Numbers.{octet, word16}
use Rattle.fields.specs.Fields.{packet_id, sequence, header}
use Rattle.heading.specs.Heading.{first_fault, header_fault}

-- What is so of each number where its field is wrong, and of 0, is so of the first fault.
pub fault_by : (P : ℕ → Type 0) (p : List ℕ)
    → (eqb (packet_id (word16 p 0)).version 0 ≡ false → P 1)
    → (eqb (packet_id (word16 p 0)).kind 1 ≡ false → P 2)
    → (eqb (packet_id (word16 p 0)).header 1 ≡ false → P 3)
    → (eqb (sequence (word16 p 2)).flags 3 ≡ false → P 4)
    → (eqb (header (octet p 6)).version 0 ≡ false → P 5)
    → P 0 → P (header_fault p)
unfolding header_fault first_fault first_from
fault_by P p version kind flag flags pus none =
    by-test (eqb (packet_id (word16 p 0)).version 0)
    (λ t1.
    by-test (eqb (packet_id (word16 p 0)).kind 1)
    (λ t2.
    by-test (eqb (packet_id (word16 p 0)).header 1)
    (λ t3.
    by-test (eqb (sequence (word16 p 2)).flags 3)
    (λ t4.
    by-test (eqb (header (octet p 6)).version 0)
    (λ t5. rw (t1, t2, t3, t4, t5) none)
    (λ w. rw (t1, t2, t3, t4, w) (pus w)))
    (λ w. rw (t1, t2, t3, w) (flags w)))
    (λ w. rw (t1, t2, w) (flag w)))
    (λ w. rw (t1, w) (kind w)))
    (λ w. rw w (version w))
