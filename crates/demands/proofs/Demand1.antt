-- The first demand is met by the terminal, the reader and the writer of document 01.
-- Assumes nothing.
use Rattle.std.specs.Prelude.{Some, None, Option, Ok}
use mathlib.Core.Path.{◌≡◌, refl, sym, ap, ◌∙◌}
use mathlib.Core.Bool.{true, false, false≢true}
use mathlib.Core.List.{List, [], append-nil}
use Prim.Native.Nat.{ℕ, ◌+◌, ◌≤◌, ◌<◌}
use native.Mathlib.Omega.{arith}
use lib.ListN.{length}
use borrow.Author.Tests.{le-leb, lt-leb}
use Rattle.laws.specs.Fold.{joined}
use Rattle.laws.proofs.Tests.{by-test}
use Rattle.octets.specs.Copy.{placed, nowhere}
use Rattle.octets.proofs.Between.{between_front}
use Rattle.checks.specs.declared.Refusal.{Refusal}
use Rattle.checks.specs.Verdict.{is_accepted, number_of, verdict_by}
use Rattle.checks.specs.Table.{Row}
use Rattle.checks.proofs.Numbers.{silent_numbers, silent_refuses}
use Rattle.checks.proofs.Verdicts.{first_refuses, all_accept, refused-first}
use Rattle.tc.specs.Layout.{around, data_most, application_of}
use Rattle.reader.specs.Reader.{reader_rows, judged, reading_of}
use Rattle.writer.specs.declared.Order.{Order}
use Rattle.writer.specs.Writer.{Written}
use Rattle.writer.specs.Writer.{written_number, fields_right, writer_rows, written_of, is_packet, buffer_after}
use Rattle.map.specs.declared.Profile.{Profile}
use Rattle.counts.specs.declared.Counts.{Counts}
use Rattle.counts.specs.Counts.{category_of, count_in}
use Rattle.counts.proofs.Counting.{counted_report}
use Rattle.tm.specs.Frame.{stamped}
use Rattle.requests.specs.declared.Request.TheVariants.{Memory, Connection}
use Rattle.requests.specs.declared.Request.{Request}
use Rattle.decide.proofs.Decided.{accepted_facts}
use Rattle.decide.specs.Table.{caller_rows, rows, decided}
use Rattle.serving.specs.Services.{area_rows, memory_rows, connection_rows}
use Rattle.addressing.specs.Requested.{service_rows, request_rows}
use Rattle.terminal.specs.Outcome.{Input, verdict_on, octets_due, outcome_of, store_on}
use Rattle.terminal.proofs.Answering.{refused_store}
use Rattle.terminal.proofs.Refusing.{no_octets, same_state, same_buffer, one_frame, one_count, frame_octets, frame_first}
use Rattle.demands.specs.Terminal.{reference, rows_on, asked_on}
use Rattle.demands.specs.Packets.{reference_reader, reference_writer}
use Rattle.demands.specs.Refusing.{numbers_of, service_numbers, Decides, unreported, Unchanged, refusal_frame, Reported, Refuses, InOrder, UnknownRefused, ReaderRefuses, Writable, WriterRefuses}

-- A table decides its own verdict.
pub table_decides : (table : List (Row Refusal)) → Decides table (verdict_by table)
table_decides table = record {
  refuses = first_refuses table;
  accepts = all_accept table;
  when = λ n f. let e = first_refuses table f.0 f.1 in (ap is_accepted e, ap number_of e ∙ f.2);
  only = λ n g. let f = refused-first table g.0 in (f.0, f.1, sym (ap number_of f.2) ∙ g.1);
}

-- ---- the terminal

service_numbers_lem : (p : Profile) (asked : Option Request) (d : List ℕ) → numbers_of (service_rows p asked d) ≡ service_numbers asked
unfolding memory_rows area_rows connection_rows
service_numbers_lem p (Some (Memory action)) d = refl
service_numbers_lem p (Some Connection) d = refl
service_numbers_lem p None d = refl

-- The table has the numbers of document 01: a terminal whose table has 17 before 5 is ruled out.
pub table_in_order : InOrder
unfolding rows caller_rows reader_rows request_rows
table_in_order i = rw (service_numbers_lem i.profile (asked_on i) (application_of i.packet))

refusal_keeps_store : (i : Input) → is_accepted (verdict_on i) ≡ false → store_on i ≡ i.store
refusal_keeps_store i h = sym (refused_store i h)

silent_changes_nothing : (i : Input) → unreported (verdict_on i) ≡ true → Unchanged i (reference i)
unfolding outcome_of
silent_changes_nothing i h =
    let s = silent_numbers (verdict_on i) ∙ h in
    record {
      written = ap length (no_octets i s);
      state = same_state i s;
      store = refusal_keeps_store i (silent_refuses (verdict_on i) s);
      buffer = same_buffer i s;
    }

refusal_reports : (i : Input) → is_accepted (verdict_on i) ≡ false → unreported (verdict_on i) ≡ false → Reported i (reference i)
unfolding outcome_of stamped count_in category_of joined
refusal_reports i r h =
    let s = silent_numbers (verdict_on i) ∙ h in
    let octets : octets_due i ≡ refusal_frame i (verdict_on i) = ap joined (one_frame i r s) ∙ append-nil (refusal_frame i (verdict_on i)) in
    record {
      written = frame_octets i r s;
      long = ap length (sym octets) ∙ frame_octets i r s;
      buffer = frame_first i r s ∙ rw octets;
      state = ap (λ (c : Counts). record { counts = c }) (one_count i r s ∙ sym (counted_report i.state.counts));
      store = refusal_keeps_store i r;
    }

-- The terminal refuses as the demand has it. Ruled out: one that gives no report of a refusal, one that writes a refused load, one that accepts or refuses everything.
pub terminal_refuses : Refuses reference
unfolding outcome_of decided
terminal_refuses = record {
  decides = λ i. table_decides (rows_on i);
  silent = silent_changes_nothing;
  reported = refusal_reports;
}

-- What is not known is never accepted. Ruled out: a terminal that accepts (6,3) and does nothing.
pub unknown_refused : UnknownRefused reference
unfolding outcome_of
unknown_refused i e =
    by-test (is_accepted (verdict_on i))
    (λ t.
    let offered = (accepted_facts i.profile i.state (length i.store) (length i.out) i.packet t).offered in
    absurd (false≢true (rw e at offered)))
    (λ f. f)

-- ---- the reader

pub none-placed : (p : List ℕ) → placed nowhere p ≡ []
none-placed p = between_front 0 p (omega arith)

-- The reader refuses as the demand has it. Ruled out: one that hands back data of a refused packet.
pub reader_refuses : ReaderRefuses reference_reader
unfolding reading_of judged
reader_refuses = record {
  decides = λ p. table_decides (reader_rows p);
  fields = λ p h. rw h;
  no_data = λ p h. rw h (none-placed p);
}

-- ---- the writer

module _ (o : Order) (data' buffer : List ℕ) where
  abbrev answer : Written
  answer = written_of o (length data') (length buffer)

  bad_field : fields_right o ≡ false → written_number answer ≡ 50
  unfolding written_of writer_rows Rattle.checks.specs.Table.answer
  bad_field h = rw h

  bad_data : fields_right o ≡ true → data_most < length data' → written_number answer ≡ 51
  unfolding written_of writer_rows Rattle.checks.specs.Table.answer
  bad_data h long = rw (h, lt-leb (length data') data_most long)

  no_room : fields_right o ≡ true → length data' ≤ data_most → length buffer < length data' + around → written_number answer ≡ 52
  unfolding written_of writer_rows Rattle.checks.specs.Table.answer
  no_room h short full = rw (h, le-leb (length data') data_most short, lt-leb (length data' + around) (length buffer) full)

  pub fits : Writable o data' buffer → answer ≡ Ok (length data' + around)
  unfolding written_of writer_rows Rattle.checks.specs.Table.answer
  fits w = rw (w.fields, le-leb (length data') data_most w.short, le-leb (length data' + around) (length buffer) w.room)

  kept : is_packet answer ≡ false → buffer_after o data' buffer ≡ buffer
  unfolding buffer_after
  kept h = rw h

-- The writer refuses as the demand has it. Ruled out: one that swaps 50 and 51, one that writes before it refuses.
pub writer_refuses : WriterRefuses reference_writer
writer_refuses = record { field_50 = bad_field; data_51 = bad_data; room_52 = no_room; accepts = fits; keeps = kept }
