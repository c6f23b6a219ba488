-- Document 01, "The writer": what it refuses, in order, and what an accepted write leaves in the buffer.
use Rattle.std.specs.Prelude.{◌≡◌, Bool, cond, is_ok, Result, Ok, Err, ◌&&◌, List, [], ◌∷◌, ℕ, ◌+◌, length, leb}
use Rattle.fields.specs.Fields.{apid_of}
use Rattle.octets.specs.Copy.{laid}
use Rattle.checks.specs.Table.{Row, answer}
use Rattle.tc.specs.declared.Fields.{Fields}
use Rattle.writer.specs.declared.Order.{Order}
use Rattle.writer.specs.declared.WriteError.{WriteError}
use Rattle.writer.specs.declared.WriteError.TheVariants.{BadField, BadData, NoRoom}
use Rattle.tc.specs.Layout.{category, flag_of, around, data_most, count_most, packet_of}

-- The number of each refusal of the writer: 50, 51, 52.
abbrev pub error_number : WriteError → ℕ
error_number BadField = 50
error_number BadData = 51
error_number NoRoom = 52

-- What the writer answers: the packet's length, or why nothing is written.
abbrev pub Written : Type 0
Written = Result ℕ WriteError

-- The number of an answer; 0 stands for a packet written.
abbrev pub written_number : Written → ℕ
written_number (Ok n) = 0
written_number (Err e) = error_number e

-- The octets written: the packet's length, and 0 where the write was refused.
abbrev pub written_length : Written → ℕ
written_length (Ok n) = n
written_length (Err e) = 0

-- The writer sets category 12, the checksum flag of the method asked for, and pad 0.
abbrev pub fields_for : Order → Fields
fields_for o = record {
  apid = apid_of o.pid category;
  count = o.count;
  checksum = flag_of o.method;
  ack = o.ack;
  kind = o.kind;
  subtype = o.subtype;
  pad = 0;
}

-- The PID is at most 127, the count at most 16,383 and the ack at most 15.
abbrev pub fields_right : Order → Bool
fields_right o = leb o.pid 127 && leb o.count count_most && leb o.ack 15

-- The writer's checks, in their order, for application data of that many octets and a buffer of that room.
unfoldable pub writer_rows : Order → ℕ → ℕ → List (Row WriteError)
writer_rows o octets room =
    record { refusal = BadField; holds = fields_right o }
    ∷ record { refusal = BadData; holds = leb octets data_most }
    ∷ record { refusal = NoRoom; holds = leb (octets + around) room }
    ∷ []

-- The writer's answer: the packet's length is the data plus 12.
unfoldable pub written_of : Order → ℕ → ℕ → Written
written_of o octets room = answer (Ok (octets + around)) Err (writer_rows o octets room)

-- Whether a packet was written.
abbrev pub is_packet : Written → Bool
is_packet answer = is_ok answer

-- The buffer afterwards: the packet at its front, or, where the write was refused, as it was.
unfoldable pub buffer_after : Order → List ℕ → List ℕ → List ℕ
buffer_after o application buffer =
    cond (is_packet (written_of o (length application) (length buffer)))
    (laid buffer 0 (packet_of (fields_for o) application))
    buffer

-- What a caller is promised: the answer, and the buffer afterwards.
pub record Writes (o : Order) (application buffer : List ℕ) (r : Written) (buffer' : List ℕ) : Type 0 where
  pub answer_is : r ≡ written_of o (length application) (length buffer)
  pub buffer_is : buffer' ≡ buffer_after o application buffer
