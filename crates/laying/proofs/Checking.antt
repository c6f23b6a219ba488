-- The frame of (6,10): its first eighteen octets, and then its entries.
-- Assumes nothing.
use Rattle.std.proofs.Common.{◌≡◌, ℕ, ◌+◌, ◌*◌, List, ◌++◌, length, sym, ap, ◌∙◌, append_assoc, arith, length-append}
use Rattle.map.specs.declared.Area.{Area}
use Rattle.blocks.specs.Blocks.{first_place, memory_id, block_count, blocks_of}
use Rattle.blocks.proofs.Blocks.{blocks_length}
use Rattle.tm.specs.declared.Stamp.{Stamp}
use Rattle.counts.specs.declared.Counts.{Counts}
use Rattle.tm.specs.Frame.{head_of, frame_of, stamped}
use Rattle.tm.proofs.Frame.{head_length}
use Rattle.reports.specs.Source.{check_head}
use Rattle.requests.specs.declared.Action.TheVariants.{Check}
use Rattle.requests.specs.Request.{carried_by}
use Rattle.memory.specs.Memory.{entries_of}
use Rattle.memory.proofs.Walking.{entries_length}
use Rattle.laying.specs.declared.Sender.{Sender}
use Rattle.laying.specs.Reports.{checked}
use Rattle.laying.specs.Lays.{stamp_for, check_first}

-- Eight octets an entry.
pub entries_octets : (a : Area) (d store : List ℕ) → length (entries_of a store (blocks_of (carried_by Check) d)) ≡ block_count d * 8
entries_octets a d store =
    entries_length a store (blocks_of (carried_by Check) d) ∙ ap (λ (n : ℕ). n * 8) (blocks_length (carried_by Check) d (block_count d) first_place)

pub check_frame : (sender : Sender) (c : Counts) (a : Area) (d store : List ℕ)
    → stamped sender.pid sender.time c (checked a d store)
    ≡ check_first (stamp_for sender c 6 10) (memory_id d) (block_count d) ++ entries_of a store (blocks_of (carried_by Check) d)
unfolding stamped frame_of check_first
check_frame sender c a d store =
    let entries : List ℕ = entries_of a store (blocks_of (carried_by Check) d) in
    let pair : List ℕ = check_head (memory_id d) (block_count d) in
    let stamp : Stamp = stamp_for sender c 6 10 in
    let size : length (pair ++ entries) ≡ block_count d * 8 + 2 = omega (arith, length-append pair entries, entries_octets a d store) in
    ap (λ (n : ℕ). head_of stamp n ++ (pair ++ entries)) size ∙ sym (append_assoc (head_of stamp (block_count d * 8 + 2)) pair entries)

pub check-first-length : (s : Stamp) (memory n : ℕ) → length s.time ≡ 6 → length (check_first s memory n) ≡ 18
unfolding check_first
check-first-length s memory n six =
    length-append (head_of s (n * 8 + 2)) (check_head memory n) ∙ ap (λ (m : ℕ). m + 2) (head_length s (n * 8 + 2) six)
