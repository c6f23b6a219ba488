-- docs/CASES.md, the table: what the commands print that show what the terminal, the reader, the writer, the CRC or the profiles answer.
use Rattle.std.specs.Prelude.{◌≡◌, cond, List, [], ◌∷◌, ◌++◌, ℕ, length, take, replicate}
use Rattle.octets.specs.Numbers.{octet, word16, octets16}
use Rattle.octets.specs.Copy.{laid, between}
use Rattle.lines.specs.Feed.{Lent}
use Rattle.crc.specs.Register.{all_ones, crc_from}
use Rattle.tc.specs.Layout.{method_of}
use Rattle.writer.specs.declared.Order.{Order}
use Rattle.reader.specs.Reader.{reading_of, data_read}
use Rattle.writer.specs.Writer.{written_of, buffer_after}
use Rattle.wider.specs.Wider.{wider}
use Rattle.terminal.specs.declared.Outcome.{Outcome}
use Rattle.terminal.specs.Outcome.{Input, input, verdict_on, octets_due, outcome_of, store_on, out_after}
use Rattle.commands.specs.declared.session.Session.{Session}
use Rattle.commands.specs.Form.{order_octets, flag_at, start_octets}
use Rattle.commands.specs.Session.{with_state, profile_in}
use Rattle.saying.specs.Text.{space, line_of, Says}
use Rattle.printing.specs.Answer.{verdict_text, counts_text, fields_text, written_text}
use Rattle.showing.specs.declared.Served.{Served}

-- What stays from line to line: the session, and what holds the store and the output buffer, of which the session has the lengths.
pub record Bench : Type 0 where
  pub session : Session
  pub store : List ℕ
  pub out : List ℕ

-- What a command does: the text that it prints, and what stays.
pub record Does : Type 0 where
  pub said : List ℕ
  pub after : Bench

-- The store and the output buffer as long as they are now.
abbrev pub store_now : Bench → List ℕ
store_now b = take b.session.stored b.store

abbrev pub out_now : Bench → List ℕ
out_now b = take b.session.room b.out

-- A packet at the terminal.
abbrev pub input_at : Bench → List ℕ → Input
input_at b packet = input b.session.profile b.session.state b.session.time packet (store_now b) (out_now b)

-- A line of the octets written; then the verdict, how many octets they are, and both counts.
unfoldable pub answer_text : Input → List ℕ
answer_text i = line_of (octets_due i) ++ (verdict_text (verdict_on i) ++ counts_text (length (octets_due i)) (outcome_of i).state.counts)

-- What stays after an answer.
unfoldable pub bench_after : Bench → Input → Bench
bench_after b i = record { session = with_state b.session (outcome_of i).state; store = laid b.store 0 (store_on i); out = laid b.out 0 (out_after i) }

-- X: the terminal answers a packet.
abbrev pub answering : Bench → List ℕ → Does
answering b packet = record { said = answer_text (input_at b packet); after = bench_after b (input_at b packet) }

-- R: the verdict, the fields, and the application data.
unfoldable pub read_text : List ℕ → List ℕ
read_text packet = verdict_text (reading_of packet).verdict ++ (fields_text (reading_of packet).fields ++ space ∷ line_of (data_read packet))

-- W: the order's PID, count, ack, checksum flag, type and subtype, the room, and the data.
abbrev pub order_in : List ℕ → Order
order_in given = record { pid = octet given 0; count = word16 given 1; ack = octet given 3; method = method_of (octet given flag_at); kind = octet given 5; subtype = octet given 6 }

abbrev pub room_in : List ℕ → ℕ
room_in given = word16 given 7

abbrev pub data_in : List ℕ → List ℕ
data_in given = between order_octets (length given) given

-- The buffer that the writer is given: as long as the room, each octet EE.
abbrev pub writer_buffer : List ℕ → List ℕ
writer_buffer given = replicate (room_in given) 0xEE

-- The writer's answer, and the whole buffer.
unfoldable pub write_text : List ℕ → List ℕ
write_text given =
    written_text (written_of (order_in given) (length (data_in given)) (room_in given))
    ++ space ∷ line_of (buffer_after (order_in given) (data_in given) (writer_buffer given))

-- The CRC from a start over some octets, on a line.
abbrev pub value_text : ℕ → List ℕ → List ℕ
value_text start octets = line_of (octets16 (crc_from start octets))

-- C: the CRC.
abbrev pub control_text : List ℕ → List ℕ
control_text given = value_text all_ones given

-- D: a start value, and the octets behind it.
abbrev pub going_on_text : List ℕ → List ℕ
going_on_text given = value_text (word16 given 0) (between start_octets (length given) given)

-- V: 01 where the profile given is wider than the one that stands, over the store that stands, else 00.
abbrev pub wider_text : Session → List ℕ → List ℕ
wider_text s given = line_of (cond (wider (profile_in given) s.profile s.stored) 1 0 ∷ [])

-- The bench that a function is lent.
abbrev pub bench_of : Session → Lent → Lent → Bench
bench_of s store out = record { session = s; store = store.entry.now; out = out.entry.now }

-- What a caller is promised of a command: every part, by an equation.
pub record Serves (d : Does) (at : ℕ) (text : List ℕ) (r : Served) (store out text' : List ℕ) : Type 0 where
  pub says : Says d.said at text r.at text'
  pub session_is : r.session ≡ d.after.session
  pub store_is : store ≡ d.after.store
  pub out_is : out ≡ d.after.out

-- The same over what the function is lent.
abbrev pub ServedBy : Does → ℕ → Lent → Lent → Lent → Served → Type 0
ServedBy d at store out text r = Serves d at text.entry.now r store.exit.now out.exit.now text.exit.now

-- What a caller is promised of the terminal's answer over the fronts of two buffers.
pub record AnsweredOver (i : Input) (store out : List ℕ) (r : Outcome) (store' out' : List ℕ) : Type 0 where
  pub outcome_is : r ≡ outcome_of i
  pub store_is : store' ≡ laid store 0 (store_on i)
  pub out_is : out' ≡ laid out 0 (out_after i)

abbrev pub AnsweredAt : Input → Lent → Lent → Outcome → Type 0
AnsweredAt i store out r = AnsweredOver i store.entry.now out.entry.now r store.exit.now out.exit.now
