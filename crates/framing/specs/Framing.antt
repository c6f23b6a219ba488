-- What a caller can hand in.
use Rattle.octets.specs.Numbers.{Octets}
use Rattle.terminal.specs.Outcome.{Input}

-- The packet, the store and the time are octets.
pub record InOctets (i : Input) : Type 0 where
  pub packet : Octets i.packet
  pub store : Octets i.store
  pub time : Octets i.time
