-- What `pack` says to a line: to an empty one and to a packet line, and how much at the most.
-- Assumes nothing.
use mathlib.Core.Path.{◌≡◌, refl}
use mathlib.Core.Bool.{true, false}
use mathlib.Core.List.{List, [], ◌∷◌}
use Prim.Native.Nat.{ℕ, ◌≤◌}
use native.Mathlib.Omega.{arith}
use lib.ListN.{length}
use Rattle.laws.proofs.Tests.{by-test}
use Rattle.packetline.specs.Packet.{is_packet}
use Rattle.hexline.specs.Whole.{answer_room}
use Rattle.packline.specs.Record.{refused_at}
use Rattle.packline.proofs.Records.{record_most, refused_most}
use Rattle.grouping.specs.Group.{next_number}
use Rattle.desk.specs.declared.Desk.{Desk}
use Rattle.desk.specs.Place.{Place, profile_at, station_at, is_halted, counting}
use Rattle.packstep.specs.Step.{is_empty, record_says, record_becomes, pack_says, pack_becomes, pack_long_says}

-- What is said to a line, and what goes on from it, where no line is refused: an empty line is passed over, and a packet line is given its record.
module _ (m : Place) (going : is_halted m.desk ≡ false) where
  pub pack_passes : (pack_says m [] ≡ []) × (pack_becomes m [] ≡ counting m)
  unfolding pack_says pack_becomes
  pack_passes = rw going (refl, refl)

  pub pack_records : (c : ℕ) (line : List ℕ) → is_packet (c ∷ line) ≡ true
      → (pack_says m (c ∷ line) ≡ record_says m (c ∷ line)) × (pack_becomes m (c ∷ line) ≡ record_becomes (counting m) (c ∷ line))
  unfolding pack_says pack_becomes
  pack_records c line t = rw (going, t) (refl, refl)

-- No answer has more than 16,384 characters.
under : (n : ℕ) → length (refused_at n) ≤ answer_room
under n = omega (arith, refused_most n)

pub pack_most : (m : Place) (line : List ℕ) → length (pack_says m line) ≤ answer_room
unfolding pack_says
pack_most m line =
    by-test (is_halted m.desk) (λ t. rw t (omega arith))
    (λ h. by-test (is_empty line) (λ t. rw (h, t) (omega arith))
    (λ n. by-test (is_packet line) (λ p. rw (h, n, p) (record_most (profile_at m) (station_at m) line p)) (λ p. rw (h, n, p) (under (next_number m.desk.number)))))

pub long_most : (d : Desk) → length (pack_long_says d) ≤ answer_room
unfolding pack_long_says
long_most d = by-test (is_halted d) (λ t. rw t (omega arith)) (λ h. rw h (under (next_number d.number)))
