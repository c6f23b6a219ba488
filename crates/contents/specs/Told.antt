-- What a report tells as fields, words and entries; and the report that tells it, by the layouts of document 01.
use Rattle.std.specs.Prelude.{◌≡◌, List, [], ◌∷◌, ◌++◌, ℕ, ◌*◌, ◌≤◌, ◌<◌, length, Option, Some, None}
use Rattle.laws.specs.Each.{Each}
use Rattle.octets.specs.Numbers.{Octets, octets16}
use Rattle.octets.specs.Copy.{placed}
use Rattle.tm.specs.Frame.{Report}
use Rattle.map.specs.Place.{word_octets, dump_words}
use Rattle.blocks.specs.Form.{blocks_most}
use Rattle.reports.specs.Source.{failure, dump_head, check_head, check_entry}
use Rattle.contents.specs.declared.Kind.{Kind}
use Rattle.contents.specs.declared.Kind.TheVariants.{Acceptance, Failure, Completion, Dump, Check, Connection}
use Rattle.contents.specs.declared.Entry.{Entry}
use Rattle.contents.specs.declared.Contents.{Contents}
use Rattle.contents.specs.declared.Contents.TheVariants.{Accepts, Refuses, Completes, Dumps, Checks, Connects}
use Rattle.contents.specs.Kinds.{type_of, subtype_of}
use Rattle.contents.specs.Source.{entries_in}

-- A TC's packet ID and sequence control; with code and detail; a block's memory ID, start, length and words; a memory ID and what is said of its blocks; or nothing besides the kind. Of a frame that is refused nothing is told.
pub data Told : Type 0 where
  acceptance : (packet control : ℕ) → Told
  refusal : (packet control code detail : ℕ) → Told
  completion : (packet control : ℕ) → Told
  dump : (memory start long : ℕ) (words : List ℕ) → Told
  check : (memory : ℕ) (entries : List Entry) → Told
  connection : Told
  nothing : Told

-- Its kind, if it has one.
abbrev pub kind_told : Told → Option Kind
kind_told (acceptance packet control) = Some Acceptance
kind_told (refusal packet control code detail) = Some Failure
kind_told (completion packet control) = Some Completion
kind_told (dump memory start long words) = Some Dump
kind_told (check memory entries) = Some Check
kind_told connection = Some Connection
kind_told nothing = None

-- The entries of some blocks, one behind another.
unfoldable pub entries_laid : List Entry → List ℕ
entries_laid [] = []
entries_laid (e ∷ rest) = check_entry e.start e.length e.crc ++ entries_laid rest

-- The source data that tells it.
abbrev pub source_of : Told → List ℕ
source_of (acceptance packet control) = octets16 packet ++ octets16 control
source_of (refusal packet control code detail) = (octets16 packet ++ octets16 control) ++ failure code detail
source_of (completion packet control) = octets16 packet ++ octets16 control
source_of (dump memory start long words) = dump_head memory start long ++ words
source_of (check memory entries) = check_head memory (length entries) ++ entries_laid entries
source_of connection = []
source_of nothing = []

-- The report that tells it.
abbrev pub report_of : Told → Report
report_of t = record { kind = type_of (kind_told t); subtype = subtype_of (kind_told t); source = source_of t }

-- ---- what has room in a report

-- A number of 16 bits, and one of 32.
abbrev pub Of16 : ℕ → Type 0
Of16 n = n < 65536

abbrev pub Of32 : ℕ → Type 0
Of32 n = n < 4294967296

-- A block's: a start of 32 bits, a length of at least 1, of 16 bits, and a CRC of 16.
pub record EntryFits (e : Entry) : Type 0 where
  pub start : Of32 e.start
  pub least : 1 ≤ e.length
  pub length : Of16 e.length
  pub crc : Of16 e.crc

-- A dump's: at least one word and at most 240, and their octets.
pub record DumpFits (memory start long : ℕ) (words : List ℕ) : Type 0 where
  pub id : memory < 256
  pub from : Of32 start
  pub least : 1 ≤ long
  pub most : long ≤ dump_words
  pub filled : length words ≡ long * word_octets
  pub octets : Octets words

-- What document 01's layouts have room for: of service 1 any values, of service 6 one to eight blocks.
abbrev pub Fits : Told → Type 0
Fits (acceptance packet control) = Of16 packet × Of16 control
Fits (refusal packet control code detail) = Of16 packet × Of16 control × Of16 code × Of16 detail
Fits (completion packet control) = Of16 packet × Of16 control
Fits (dump memory start long words) = DumpFits memory start long words
Fits (check memory entries) = (memory < 256) × (1 ≤ length entries) × (length entries ≤ blocks_most) × Each EntryFits entries
Fits connection = Unit
Fits nothing = ⊥

-- ---- what contents tell, with the frame that they are parts of

abbrev pub told_by : List ℕ → Contents → Told
told_by f (Accepts e) = acceptance e.packet e.control
told_by f (Refuses r) = refusal r.echo.packet r.echo.control r.code r.detail
told_by f (Completes e) = completion e.packet e.control
told_by f (Dumps d) = dump d.memory d.start d.length (placed d.words f)
told_by f (Checks c) = check c.memory (entries_in c.blocks (placed c.entries f))
told_by f Connects = connection

-- What they tell, if there are any.
abbrev pub told_if : List ℕ → Option Contents → Told
told_if f (Some c) = told_by f c
told_if f None = nothing
