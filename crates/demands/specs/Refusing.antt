-- The inspector's first demand, of any terminal, reader and writer: "Bad packets, bad memory maps and short buffers are refused by the number in document 01. A refusal changes no memory word, and its reports and counters are those the table states." (That ours end on every input without a fault is what the check of each crate's code proves.)
use Rattle.std.specs.Prelude.{◌≡◌, Bool, true, false, List, [], ◌∷◌, ◌++◌, map, ℕ, ◌+◌, ◌≤◌, ◌<◌, length, drop, Some, None, Ok, Err, Option}
use Rattle.laws.specs.Each.{among}
use Rattle.checks.specs.declared.Refusal.{Refusal}
use Rattle.checks.specs.Verdict.{Verdict}
use Rattle.checks.specs.Verdict.{check_number, is_accepted, number_of, detail_of}
use Rattle.checks.specs.Table.{Row, First, AllHold}
use Rattle.tc.specs.Layout.{around, data_most}
use Rattle.reader.specs.Reader.{reader_rows, no_fields}
use Rattle.writer.specs.declared.Order.{Order}
use Rattle.writer.specs.Writer.{written_number, fields_right, is_packet}
use Rattle.counts.specs.Counts.{advanced}
use Rattle.tm.specs.Frame.{frame_of, time_of}
use Rattle.reports.specs.Source.{echo_of, failure}
use Rattle.requests.specs.declared.Request.TheVariants.{Memory, Connection}
use Rattle.requests.specs.declared.Request.{Request}
use Rattle.terminal.specs.Outcome.{Input}
use Rattle.terminal.specs.Run.{Answer}
use Rattle.demands.specs.Terminal.{Terminal, rows_on, asked_on}
use Rattle.demands.specs.Packets.{Reader, handed, Writer}

-- ---- by the number in document 01

-- The numbers of some rows.
abbrev pub numbers_of : List (Row Refusal) → List ℕ
numbers_of table = map (λ (r : Row Refusal). check_number r.refusal.check) table

-- The numbers of the checks that a service adds: for service 6 there is a 5 for the head of its data and one for the blocks.
abbrev pub service_numbers : Option Request → List ℕ
service_numbers (Some (Memory action)) = 5 ∷ 5 ∷ 17 ∷ 18 ∷ 19 ∷ []
service_numbers (Some Connection) = 5 ∷ []
service_numbers None = []

-- The numbers of the whole table, in checking order.
abbrev pub table_numbers : Option Request → List ℕ
table_numbers asked = 40 ∷ 41 ∷ 42 ∷ 1 ∷ 2 ∷ 16 ∷ 0 ∷ 3 ∷ 4 ∷ service_numbers asked

-- A verdict refuses by a number.
abbrev pub Given : ℕ → Verdict → Type 0
Given n v = (is_accepted v ≡ false) × (number_of v ≡ n)

-- The first check of a table that fails has a number.
abbrev pub FirstIs : ℕ → List (Row Refusal) → Type 0
FirstIs n table = (r : Row Refusal) × First table r × (check_number r.refusal.check ≡ n)

-- A table decides a verdict: its first check that fails gives number and detail, acceptance is given where none fails, and "each number is given exactly when its check is the first that fails".
pub record Decides (table : List (Row Refusal)) (v : Verdict) : Type 0 where
  pub refuses : (r : Row Refusal) → First table r → v ≡ Err r.refusal
  pub accepts : AllHold table → v ≡ Ok tt
  pub when : (n : ℕ) → FirstIs n table → Given n v
  pub only : (n : ℕ) → Given n v → FirstIs n table

-- ---- the terminal

-- The refusals without a frame, by their numbers.
abbrev pub unreported : Verdict → Bool
unreported v = among (number_of v) (40 ∷ 41 ∷ 42 ∷ [])

-- 40, 41 and 42: nothing is written, and nothing at all is changed.
pub record Unchanged (i : Input) (a : Answer) : Type 0 where
  pub written : a.outcome.written ≡ 0
  pub state : a.outcome.state ≡ i.state
  pub store : a.store ≡ i.store
  pub buffer : a.out ≡ i.out

-- The (1,2) of a packet, stamped with the count of category 1: the first four octets of the packet, code and detail.
abbrev pub refusal_frame : Input → Verdict → List ℕ
refusal_frame i v =
    frame_of (record { pid = i.profile.pid; count = i.state.counts.reports; time = time_of i.time; kind = 1; subtype = 2 })
    (echo_of i.packet ++ failure (number_of v) (detail_of v))

-- Any other refusal: that frame of 24 octets stands at the front of the buffer, whose other octets stay; of the counts that of category 1 has advanced by one; the store stays.
pub record Reported (i : Input) (a : Answer) : Type 0 where
  pub written : a.outcome.written ≡ 24
  pub long : length (refusal_frame i a.outcome.verdict) ≡ 24
  pub buffer : a.out ≡ refusal_frame i a.outcome.verdict ++ drop 24 i.out
  pub state : a.outcome.state ≡ record { counts = advanced i.state.counts 1 }
  pub store : a.store ≡ i.store

-- The demand of a terminal.
pub record Refuses (f : Terminal) : Type 0 where
  pub decides : (i : Input) → Decides (rows_on i) (f i).outcome.verdict
  pub silent : (i : Input) → unreported (f i).outcome.verdict ≡ true → Unchanged i (f i)
  pub reported : (i : Input) → is_accepted (f i).outcome.verdict ≡ false → unreported (f i).outcome.verdict ≡ false → Reported i (f i)

-- The table that it speaks of has the numbers of document 01, in its order.
abbrev pub InOrder : Type 0
InOrder = (i : Input) → numbers_of (rows_on i) ≡ table_numbers (asked_on i)

-- What is not known is never accepted by a terminal: the table of such a packet ends with 4.
abbrev pub UnknownRefused : Terminal → Type 0
UnknownRefused f = (i : Input) → asked_on i ≡ None → is_accepted (f i).outcome.verdict ≡ false

-- ---- the reader and the writer

-- The demand of a reader: 42, 1, 2 and 16; "refused, all of them are 0 and the data is an empty part".
pub record ReaderRefuses (read : Reader) : Type 0 where
  pub decides : (p : List ℕ) → Decides (reader_rows p) (read p).verdict
  pub fields : (p : List ℕ) → is_accepted (read p).verdict ≡ false → (read p).fields ≡ no_fields
  pub no_data : (p : List ℕ) → is_accepted (read p).verdict ≡ false → handed read p ≡ []

-- What an order must meet to be written: fields, data and room.
pub record Writable (o : Order) (data' buffer : List ℕ) : Type 0 where
  pub fields : fields_right o ≡ true
  pub short : length data' ≤ data_most
  pub room : length data' + around ≤ length buffer

-- The demand of a writer: 50, then 51, then 52, each where it is the first that fails, and a refused write leaves the buffer.
pub record WriterRefuses (w : Writer) : Type 0 where
  pub field_50 : (o : Order) (data' buffer : List ℕ) → fields_right o ≡ false → written_number (w o data' buffer).answer ≡ 50
  pub data_51 : (o : Order) (data' buffer : List ℕ) → fields_right o ≡ true → data_most < length data' → written_number (w o data' buffer).answer ≡ 51
  pub room_52 : (o : Order) (data' buffer : List ℕ) → fields_right o ≡ true → length data' ≤ data_most → length buffer < length data' + around
      → written_number (w o data' buffer).answer ≡ 52
  pub accepts : (o : Order) (data' buffer : List ℕ) → Writable o data' buffer → (w o data' buffer).answer ≡ Ok (length data' + around)
  pub keeps : (o : Order) (data' buffer : List ℕ) → is_packet (w o data' buffer).answer ≡ false → (w o data' buffer).buffer ≡ buffer
