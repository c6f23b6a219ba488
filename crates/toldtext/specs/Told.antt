-- docs/FRAMES.md, "What a line says": what stands behind the time, by what a frame tells.
use Rattle.std.specs.Prelude.{List, [], ◌∷◌, ◌++◌, ℕ, length}
use Rattle.octets.specs.Numbers.{octets16, octets32}
use Rattle.characters.specs.Digits.{text_of}
use Rattle.words.specs.Ascii.{ascii}
use Rattle.numerals.specs.Numbers.{decimal_of}
use Rattle.contents.specs.declared.Entry.{Entry}
use Rattle.contents.specs.Told.{Told, acceptance, refusal, completion, dump, check, connection, nothing}

-- A word and a number in decimal, and a word and octets in hexadecimal.
abbrev pub in_decimal : List ℕ → ℕ → List ℕ
in_decimal word n = word ++ decimal_of n

abbrev pub in_hex : List ℕ → List ℕ → List ℕ
in_hex word octets = word ++ text_of octets

-- A TC's packet ID and sequence control.
abbrev pub echo_text : ℕ → ℕ → List ℕ
echo_text packet control = in_hex (ascii " packet ") (octets16 packet) ++ in_hex (ascii " control ") (octets16 control)

-- Code and detail.
abbrev pub failure_text : ℕ → ℕ → List ℕ
failure_text code detail = in_decimal (ascii " code ") code ++ in_decimal (ascii " detail ") detail

-- A block's start and length.
abbrev pub block_text : ℕ → ℕ → List ℕ
block_text start long = in_hex (ascii " start ") (octets32 start) ++ in_decimal (ascii " length ") long

-- What is said of a block.
abbrev pub entry_text : Entry → List ℕ
entry_text e = block_text e.start e.length ++ in_hex (ascii " crc ") (octets16 e.crc)

unfoldable pub entries_text : List Entry → List ℕ
entries_text [] = []
entries_text (e ∷ rest) = entry_text e ++ entries_text rest

-- What a frame tells.
abbrev pub told_text : Told → List ℕ
told_text (acceptance packet control) = echo_text packet control
told_text (refusal packet control code detail) = echo_text packet control ++ failure_text code detail
told_text (completion packet control) = echo_text packet control
told_text (dump memory start long words) = in_decimal (ascii " memory ") memory ++ (block_text start long ++ in_hex (ascii " words ") words)
told_text (check memory entries) = in_decimal (ascii " memory ") memory ++ (in_decimal (ascii " blocks ") (length entries) ++ entries_text entries)
told_text connection = []
told_text nothing = []
