-- The largest answer, by computation over the definitions: a dump of eight blocks of 240 words with both acks, from counts of 16,383.
-- Assumes nothing.
use Rattle.std.specs.Prelude.{Ok}
use mathlib.Core.Path.{◌≡◌, refl}
use mathlib.Core.List.{List, [], ◌∷◌}
use Prim.Native.Nat.{ℕ}
use lib.ListN.{replicate}
use Rattle.octets.specs.Copy.{between}
use Rattle.map.specs.Made.{all_flags, area_of, profile_with}
use Rattle.terminal.specs.Outcome.{Input, input, octets_due, outcome_of}
use Rattle.lineunit.specs.Unit.{line_time, line_out}
use Rattle.demands.proofs.Computing.{all}
use Rattle.demands.specs.Cases.{from}

-- (6,5) with both acks: eight blocks of 240 words, one behind the other.
abbrev pub eight_blocks : List ℕ
eight_blocks = 0x18 ∷ 0x5c ∷ 0xc0 ∷ 0x00 ∷ 0x00 ∷ 0x37 ∷ 0x19 ∷ 0x06 ∷ 0x05 ∷ 0x00 ∷ 0x01 ∷ 0x08 ∷ 0x00 ∷ 0x00 ∷ 0x10 ∷ 0x00 ∷ 0x00 ∷ 0xf0 ∷ 0x00 ∷ 0x00 ∷ 0x10 ∷ 0xf0 ∷ 0x00 ∷ 0xf0 ∷ 0x00 ∷ 0x00 ∷ 0x11 ∷ 0xe0 ∷ 0x00 ∷ 0xf0 ∷ 0x00 ∷ 0x00 ∷ 0x12 ∷ 0xd0 ∷ 0x00 ∷ 0xf0 ∷ 0x00 ∷ 0x00 ∷ 0x13 ∷ 0xc0 ∷ 0x00 ∷ 0xf0 ∷ 0x00 ∷ 0x00 ∷ 0x14 ∷ 0xb0 ∷ 0x00 ∷ 0xf0 ∷ 0x00 ∷ 0x00 ∷ 0x15 ∷ 0xa0 ∷ 0x00 ∷ 0xf0 ∷ 0x00 ∷ 0x00 ∷ 0x16 ∷ 0x90 ∷ 0x00 ∷ 0xf0 ∷ 0x0e ∷ 0x4c ∷ []

-- PID 5, all flags, one area with all rights: ID 1, start 1000 hex, 2,000 words, store word 0. Both counts are the last that there is.
abbrev pub largest_input : Input
largest_input =
    input (profile_with 5 all_flags (area_of 1 0x1000 2000 0 ∷ [])) (from 16383 16383) line_time eight_blocks (replicate 4000 0xa5) line_out

-- 4,072 octets are written, and after 16,383 each category has counted on from 0 by itself: two reports of service 1, eight of service 6.
pub largest : outcome_of largest_input ≡ record { verdict = (Ok tt); written = 4072; state = from 1 7 }
unfolding all
largest = refl

-- Within its frames: (1,1) and the first (6,6) have the count 16,383, and (1,7) and the second (6,6) have 0.
pub largest-counts :
    (between 2 4 (octets_due largest_input) ≡ 0xff ∷ 0xff ∷ [])
    × (between 22 24 (octets_due largest_input) ≡ 0xff ∷ 0xff ∷ [])
    × (between 526 528 (octets_due largest_input) ≡ 0xc0 ∷ 0x00 ∷ [])
    × (between 4054 4056 (octets_due largest_input) ≡ 0xc0 ∷ 0x00 ∷ [])
unfolding all
largest-counts = (refl, refl, refl, refl)
