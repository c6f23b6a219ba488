-- The loop of `crc::tables::Lookup::one_by_one`: the register has taken the octets before the index.
use Rattle.std.proofs.Common.{◌≡◌, take}
use Rattle.crc.specs.Register.{crc_from}
use Rattle.crc.proofs.tables.Lookup.one_by_one.Given as goal

abbrev pub invariant-loop-octet : goal.invariant-loop-octet
invariant-loop-octet l = l.register ≡ crc_from l.start (take l.octet-index l.octets)
