-- `crc::tables::Lookup::new` meets its contract: a test at each of its entries, which antt computes.
use Rattle.std.proofs.Common.{refl}
use mathlib.Core.Bool.{xor}
use Rattle.crc.specs.Register.{take_bit, take_bits, crc_from}
use Rattle.crc.proofs.Leaves.{right_tables}
use Rattle.crc.proofs.tables.Lookup.new.Goals as goal

pub invariant_of-result : goal.invariant_of-result
unfolding take_bit take_bits crc_from xor
invariant_of-result c = record { right = right_tables 4 _ refl refl }
