-- docs/UNITS.md, "A bad unit file": the rows of its table by number.
use Rattle.std.specs.Prelude.{ℕ}
use Rattle.numerals.specs.declared.NumeralError.{NumeralError}
use Rattle.numerals.specs.declared.NumeralError.TheVariants.{Large, Bad}
use Rattle.stating.specs.declared.fault.Fault.{Fault}
use Rattle.stating.specs.declared.fault.Fault.TheVariants.{LineLong, NoItem, PidTwice, PidForm, PidLarge, ServicesTwice, ServicesForm, ServiceTwice, StoreTwice, StoreForm, StoreLarge, PutEarly, PutForm, PutDigits, PutOdd, PutPast, AreaNinth, AreaForm, AreaId, AreaOdd, AreaSize, RightTwice, NumberForm, NumberLarge, NoPid, NoStore}

-- The row of the table that has the words of a fault, from 1.
abbrev pub fault_number : Fault → ℕ
fault_number LineLong = 1
fault_number NoItem = 2
fault_number PidTwice = 3
fault_number PidForm = 4
fault_number PidLarge = 5
fault_number ServicesTwice = 6
fault_number ServicesForm = 7
fault_number ServiceTwice = 8
fault_number StoreTwice = 9
fault_number StoreForm = 10
fault_number StoreLarge = 11
fault_number PutEarly = 12
fault_number PutForm = 13
fault_number PutDigits = 14
fault_number PutOdd = 15
fault_number PutPast = 16
fault_number AreaNinth = 17
fault_number AreaForm = 18
fault_number AreaId = 19
fault_number AreaOdd = 20
fault_number AreaSize = 21
fault_number RightTwice = 22
fault_number NumberForm = 23
fault_number NumberLarge = 24
fault_number NoPid = 25
fault_number NoStore = 26

-- What is wrong with a line, a word of which states no number that has room.
abbrev pub numeral_fault : NumeralError → Fault
numeral_fault Large = NumberLarge
numeral_fault Bad = NumberForm
