-- docs/UNITS.md: the words for what is wrong with a unit file, for a line that is refused by 70, and for a unit that is not sound.
use Rattle.std.specs.Prelude.{List, [], ◌∷◌, ◌++◌, ℕ, Option, Some, None}
use Rattle.characters.specs.Digits.{text_of}
use Rattle.lines.specs.Lines.{newline}
use Rattle.words.specs.Ascii.{ascii}
use Rattle.numerals.specs.Numbers.{decimal_of}
use Rattle.stating.specs.declared.fault.Fault.{Fault}
use Rattle.stating.specs.declared.fault.Fault.TheVariants.{LineLong, NoItem, PidTwice, PidForm, PidLarge, ServicesTwice, ServicesForm, ServiceTwice, StoreTwice, StoreForm, StoreLarge, PutEarly, PutForm, PutDigits, PutOdd, PutPast, AreaNinth, AreaForm, AreaId, AreaOdd, AreaSize, RightTwice, NumberForm, NumberLarge, NoPid, NoStore}
use Rattle.packline.specs.declared.Halt.{Halt}
use Rattle.packline.specs.declared.Halt.TheVariants.{Unit, Long, Character, Odd, Differs, NoPacket}

-- What is wrong with a unit file: with the line and its first word, with `pid`, `services`, `store`, `put` and `area`, with a number, and at the end.
abbrev pub fault_words : Fault → List ℕ
fault_words LineLong = ascii "a line has at most 4096 characters"
fault_words NoItem = ascii "a line begins with pid, services, store, put or area"
fault_words PidTwice = ascii "pid stands once, and an earlier line has it"
fault_words PidForm = ascii "a process ID is \"pid N\""
fault_words PidLarge = ascii "a process ID is at most 255"
fault_words ServicesTwice = ascii "services stands once, and an earlier line has it"
fault_words ServicesForm = ascii "services are \"services WORD ..\": one or more of load, dump, check and connection"
fault_words ServiceTwice = ascii "a service stands once on its line"
fault_words StoreTwice = ascii "store stands once, and an earlier line has it"
fault_words StoreForm = ascii "a store is \"store N\""
fault_words StoreLarge = ascii "a store has at most 65536 octets"
fault_words PutEarly = ascii "put stands behind store, and no earlier line has it"
fault_words PutForm = ascii "octets are put by \"put AT HEX ..\""
fault_words PutDigits = ascii "HEX is hexadecimal digits"
fault_words PutOdd = ascii "HEX is two digits for each octet"
fault_words PutPast = ascii "octets are put inside the store"
fault_words AreaNinth = ascii "a unit has at most 8 areas"
fault_words AreaForm = ascii "an area is \"area ID start N words N at N [size N] [load] [dump] [check]\""
fault_words AreaId = ascii "a memory ID is at most 255"
fault_words AreaOdd = ascii "an area begins at an even octet of the store"
fault_words AreaSize = ascii "a word has 2 octets"
fault_words RightTwice = ascii "a right stands once on its line"
fault_words NumberForm = ascii "a number is decimal digits without a leading zero, or 0x and hexadecimal digits"
fault_words NumberLarge = ascii "a number is at most 4294967295"
fault_words NoPid = ascii "a unit has \"pid N\", and no line has it"
fault_words NoStore = ascii "a unit has \"store N\", and no line has it"

-- The line that tells the first bad line of a unit file.
unfoldable pub unit_line : ℕ → Fault → List ℕ
unit_line number fault = ascii "unit " ++ (decimal_of number ++ (ascii ": " ++ (fault_words fault ++ newline ∷ [])))

-- The line that tells what is wrong with a line of a unit file, if anything is.
abbrev pub unit_told : ℕ → Option Fault → List ℕ
unit_told number (Some fault) = unit_line number fault
unit_told number None = ascii "unit " ++ (decimal_of number ++ (ascii ": " ++ newline ∷ []))

-- Why a line is refused by 70; of any other reason to stop nothing.
abbrev pub halt_words : Halt → List ℕ
halt_words Long = ascii "too long"
halt_words (Character place octet) = ascii "character " ++ (decimal_of place ++ (ascii " is " ++ text_of (octet ∷ [])))
halt_words Odd = ascii "odd digits"
halt_words (Unit fault) = []
halt_words Differs = []
halt_words NoPacket = []

unfoldable pub halt_line : Halt → List ℕ
halt_line h = halt_words h ++ newline ∷ []

-- The same line where there may be no reason to stop: then nothing stands in it.
abbrev pub halt_told : Option Halt → List ℕ
halt_told (Some h) = halt_line h
halt_told None = newline ∷ []

-- A profile that is not sound.
abbrev pub unsound_line : List ℕ
unsound_line = ascii "refused 41" ++ newline ∷ []
