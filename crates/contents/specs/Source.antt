-- Document 01, "Service data", and document 02, wish 1, refusal 63: which source data each kind of report has, and what is read in it.
use Rattle.std.specs.Prelude.{Bool, true, false, ◌&&◌, List, [], ◌∷◌, ℕ, zero, suc, ◌+◌, ◌*◌, length, drop, leb, eqb, Option, Some, None}
use Rattle.octets.specs.Numbers.{octet, word16, word32}
use Rattle.octets.specs.declared.copy.Span.{Span}
use Rattle.tm.specs.Frame.{frame_head}
use Rattle.map.specs.Place.{word_octets, dump_words}
use Rattle.blocks.specs.Blocks.{first_place, memory_id, block_count}
use Rattle.blocks.specs.Form.{blocks_most}
use Rattle.contents.specs.declared.Kind.{Kind}
use Rattle.contents.specs.declared.Kind.TheVariants.{Acceptance, Failure, Completion, Dump, Check, Connection}
use Rattle.contents.specs.declared.Echo.{Echo}
use Rattle.contents.specs.declared.Failed.{Failed}
use Rattle.contents.specs.declared.Dumped.{Dumped}
use Rattle.contents.specs.declared.Checked.{Checked}
use Rattle.contents.specs.declared.Entry.{Entry}
use Rattle.contents.specs.declared.Contents.{Contents}
use Rattle.contents.specs.declared.Contents.TheVariants.{Accepts, Refuses, Completes, Dumps, Checks, Connects}

-- How many octets a TC's packet ID and sequence control are, and those with code and detail.
abbrev pub echo_size : ℕ
echo_size = 4

abbrev pub failure_size : ℕ
failure_size = 8

-- How many octets of (6,6) stand before the words, and how many an entry of (6,10) has.
abbrev pub dump_head_size : ℕ
dump_head_size = 8

abbrev pub entry_size : ℕ
entry_size = 8

-- ---- (6,10)

-- The entry at the front of some octets: start, length and CRC.
abbrev pub first_entry : List ℕ → Entry
first_entry s = record { start = word32 s 0; length = word16 s 4; crc = word16 s 6 }

-- An entry by its number, from 0.
abbrev pub entry_at : List ℕ → ℕ → Entry
entry_at s number = first_entry (drop (number * entry_size) s)

-- So many entries, one behind another.
unfoldable pub entries_in : ℕ → List ℕ → List Entry
entries_in zero s = []
entries_in (suc n) s = first_entry s ∷ entries_in n (drop entry_size s)

-- Each of their lengths is at least 1.
unfoldable pub lengths_right_of : ℕ → List ℕ → Bool
lengths_right_of zero s = true
lengths_right_of (suc n) s = leb 1 (first_entry s).length && lengths_right_of n (drop entry_size s)

-- ---- which source data is right

-- (6,6): octet 1 is 1, the length is 1 to 240, and exactly the words follow.
unfoldable pub dump_formed : List ℕ → Bool
dump_formed s = eqb (octet s 1) 1 && leb 1 (word16 s 6) && leb (word16 s 6) dump_words && eqb (length s) (word16 s 6 * word_octets + dump_head_size)

-- (6,10): N is 1 to 8, exactly N entries follow, and each of their lengths is at least 1.
unfoldable pub check_formed : List ℕ → Bool
check_formed s =
    leb 1 (block_count s)
    && leb (block_count s) blocks_most
    && eqb (length s) (block_count s * entry_size + first_place)
    && lengths_right_of (block_count s) (drop first_place s)

-- The source data of each kind.
abbrev pub formed : Kind → List ℕ → Bool
formed Acceptance s = eqb (length s) echo_size
formed Failure s = eqb (length s) failure_size
formed Completion s = eqb (length s) echo_size
formed Dump s = dump_formed s
formed Check s = check_formed s
formed Connection s = eqb (length s) 0

-- The source data of a kind, if there is one.
abbrev pub formed_if : Option Kind → List ℕ → Bool
formed_if (Some k) s = formed k s
formed_if None s = false

-- ---- what is read in it

-- A TC's packet ID and sequence control.
abbrev pub echo_in : List ℕ → Echo
echo_in s = record { packet = word16 s 0; control = word16 s 2 }

-- Those, code and detail.
abbrev pub failed_in : List ℕ → Failed
failed_in s = record { echo = echo_in s; code = word16 s 4; detail = word16 s 6 }

-- Where in the frame that stands which is behind so many octets of its source data.
abbrev pub part_behind : ℕ → List ℕ → Span
part_behind head s = record { from = frame_head + head; to = frame_head + length s }

-- Memory ID, start, length, and the words.
abbrev pub dumped_in : List ℕ → Dumped
dumped_in s = record { memory = memory_id s; start = word32 s 2; length = word16 s 6; words = part_behind dump_head_size s }

-- Memory ID, N, and the entries.
abbrev pub checked_in : List ℕ → Checked
checked_in s = record { memory = memory_id s; blocks = block_count s; entries = part_behind first_place s }

-- What the source data of each kind tells.
abbrev pub contents_in : Kind → List ℕ → Contents
contents_in Acceptance s = Accepts (echo_in s)
contents_in Failure s = Refuses (failed_in s)
contents_in Completion s = Completes (echo_in s)
contents_in Dump s = Dumps (dumped_in s)
contents_in Check s = Checks (checked_in s)
contents_in Connection s = Connects

-- What the source data of a kind tells, if there is one.
abbrev pub contents_if : Option Kind → List ℕ → Option Contents
contents_if (Some k) s = Some (contents_in k s)
contents_if None s = None
