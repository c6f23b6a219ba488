-- Two profiles over one store, the one strictly wider, part on packets of each of the five numbers, by computation.
-- Assumes nothing.
use mathlib.Core.Path.{◌≡◌, refl}
use mathlib.Core.Bool.{true, false}
use mathlib.Core.List.{[], ◌∷◌, ◌++◌}
use native.Mathlib.Omega.{arith}
use Rattle.laws.specs.Each.{Each}
use Rattle.octets.specs.Numbers.{octet}
use Rattle.wider.specs.Wider.{wider}
use Rattle.terminal.specs.Outcome.{verdict_on, store_on}
use Rattle.demands.specs.Cases.{command, block, over, narrow, wide}
use Rattle.demands.specs.Listing.{told}
use Rattle.demands.specs.Widening.{place_in}
use Rattle.demands.specs.Parting.{Parted, partings}
use Rattle.demands.proofs.Computing.{all}

-- Over a store of 512 octets the one is wider than the other, and not the other way round.
pub strictly_wider : (wider wide narrow 512 ≡ true) × (wider narrow wide 512 ≡ false)
unfolding all
strictly_wider = (refl, refl)

-- They part on each of these packets.
pub every_packet_parts : Each Parted partings
unfolding partings place_in all
every_packet_parts =
    ((refl, refl, omega arith), ((refl, refl, omega arith), ((refl, refl, omega arith), ((refl, refl, omega arith), ((refl, refl, omega arith), ((refl, refl, omega arith), tt))))))

-- Both refuse by 19, the wider with the larger block number.
pub larger_block_number :
    (told (verdict_on (over narrow 512 (command 6 2 (1 ∷ 2 ∷ (block 0x1050 1 ++ 0x12 ∷ 0x34 ∷ block 0x1080 1 ++ 0x12 ∷ 0x34 ∷ []))))) ≡ 19 ∷ 1 ∷ [])
    × (told (verdict_on (over wide 512 (command 6 2 (1 ∷ 2 ∷ (block 0x1050 1 ++ 0x12 ∷ 0x34 ∷ block 0x1080 1 ++ 0x12 ∷ 0x34 ∷ []))))) ≡ 19 ∷ 2 ∷ [])
unfolding all
larger_block_number = (refl, refl)

-- Both accept a load inside the narrower's area, and it changes the store.
pub both_accept :
    (told (verdict_on (over narrow 512 (command 6 2 (1 ∷ 1 ∷ (block 0x1000 1 ++ 0x12 ∷ 0x34 ∷ []))))) ≡ [])
    × (told (verdict_on (over wide 512 (command 6 2 (1 ∷ 1 ∷ (block 0x1000 1 ++ 0x12 ∷ 0x34 ∷ []))))) ≡ [])
    × (octet (store_on (over narrow 512 (command 6 2 (1 ∷ 1 ∷ (block 0x1000 1 ++ 0x12 ∷ 0x34 ∷ []))))) 0 ≡ 0x12)
unfolding all
both_accept = (refl, refl, refl)
