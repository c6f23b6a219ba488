-- What stands in the frames due: octets, and at most 504 of them in each.
-- Assumes nothing.
use mathlib.Core.Path.{refl}
use mathlib.Core.List.{List}
use Prim.Native.Nat.{ℕ, ◌≤◌}
use native.Mathlib.Omega.{arith}
use lib.ListN.{length}
use Rattle.laws.specs.Each.{Each}
use Rattle.octets.specs.Numbers.{Octets}
use Rattle.tm.specs.Frame.{time_of}
use Rattle.tm.proofs.Frames.{stamped-length}
use Rattle.tm.proofs.Octets.{Sendable, frames_each, stamped_octets, time_octets}
use Rattle.terminal.specs.Act.{dump_most}
use Rattle.terminal.specs.Outcome.{Input, reports_on, frames_due}
use Rattle.framing.specs.Framing.{InOctets}
use Rattle.framing.proofs.Sources.{Short, reports_sendable, reports_short}

-- Where packet, store and time are octets, each frame due is octets.
pub due_octets : (i : Input) → InOctets i → Each Octets (frames_due i)
unfolding frames_due
due_octets i h =
    let time : List ℕ = time_of i.time in
    frames_each Sendable Octets i.profile.pid time
    (stamped_octets i.profile.pid time (time_octets i.time h.time))
    i.state.counts (reports_on i) (reports_sendable i h)

-- No frame due is longer than 504 octets.
pub due-short : (i : Input) → Each (λ (f : List ℕ). length f ≤ dump_most) (frames_due i)
unfolding frames_due
due-short i =
    let time : List ℕ = time_of i.time in
    frames_each Short (λ (f : List ℕ). length f ≤ dump_most) i.profile.pid time
    (λ c r short. omega (arith, stamped-length i.profile.pid time c r refl))
    i.state.counts (reports_on i) (reports_short i)
