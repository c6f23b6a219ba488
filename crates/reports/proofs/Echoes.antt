-- The first four octets of a TC are those that a report repeats.
-- Assumes nothing.
use mathlib.Core.Path.{◌≡◌, sym}
use mathlib.Core.List.{List}
use Prim.Native.Nat.{ℕ, ◌≤◌}
use native.Mathlib.Omega.{arith}
use lib.ListN.{length}
use Rattle.octets.proofs.Words.{run, run_take}
use Rattle.reports.specs.Source.{echo_of, echoed}

-- Where a packet has four octets.
pub echoed-eq : (packet : List ℕ) → 4 ≤ length packet → echoed packet ≡ echo_of packet
unfolding run
echoed-eq packet h = sym (run_take packet 0 4 (omega arith))
