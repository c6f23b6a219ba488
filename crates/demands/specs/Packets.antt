-- Any reader and any writer at all; those of document 01 are two of them.
use Rattle.std.specs.Prelude.{◌≡◌, List, ℕ, ◌/◌, ◌%◌, length}
use Rattle.octets.specs.Copy.{placed}
use Rattle.tc.specs.declared.Fields.{Fields}
use Rattle.reader.specs.declared.Reading.{Reading}
use Rattle.tc.specs.Layout.{category, method_of}
use Rattle.reader.specs.Reader.{reading_of}
use Rattle.writer.specs.declared.Order.{Order}
use Rattle.writer.specs.Writer.{Written}
use Rattle.writer.specs.Writer.{written_of, buffer_after}

-- A reader: what it returns of a packet.
abbrev pub Reader : Type 0
Reader = List ℕ → Reading

-- The data that a reader hands back: a part of the packet itself.
abbrev pub handed : Reader → List ℕ → List ℕ
handed read p = placed (read p).«data» p

-- What a writer leaves: its answer, and the buffer afterwards.
pub record Write : Type 0 where
  pub answer : Written
  pub buffer : List ℕ

-- A writer: what it leaves of an order, application data and a buffer.
abbrev pub Writer : Type 0
Writer = Order → List ℕ → List ℕ → Write

-- The reader and the writer of document 01; the contracts of `reader::read` and `writer::write` permit no other answer.
abbrev pub reference_reader : Reader
reference_reader = reading_of

abbrev pub reference_writer : Writer
reference_writer o data' buffer = record { answer = written_of o (length data') (length buffer); buffer = buffer_after o data' buffer }

-- The order that a packet with those fields was written from.
abbrev pub order_of : Fields → Order
order_of f = record { pid = f.apid / 16; count = f.count; ack = f.ack; method = method_of f.checksum; kind = f.kind; subtype = f.subtype }

-- The ordinary category and pad; since document 02, wish 3, the checksum flag is any.
pub record Ordinary (f : Fields) : Type 0 where
  pub category_is : f.apid % 16 ≡ category
  pub pad_is : f.pad ≡ 0
