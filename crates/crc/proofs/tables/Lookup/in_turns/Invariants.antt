-- The loop of `crc::tables::Lookup::in_turns`: the register has taken the turns before the index.
use Rattle.std.proofs.Common.{◌≡◌, ◌*◌, take}
use Rattle.crc.specs.Register.{crc_from}
use Rattle.crc.proofs.tables.Lookup.in_turns.Given as goal

abbrev pub invariant-loop-turn : goal.invariant-loop-turn
invariant-loop-turn l = l.register ≡ crc_from l.start (take (l.turn-index * 4) l.octets)
