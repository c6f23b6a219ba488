-- The round trips of the reader and the writer of document 01.
-- Assumes nothing.
use Rattle.std.specs.Prelude.{Ok}
use mathlib.Core.Path.{◌≡◌, sym, ap, ap₂, ◌∙◌}
use mathlib.Core.Bool.{true, ◌&&◌}
use mathlib.Core.List.{List, ◌++◌}
use Prim.Native.Nat.{ℕ, ◌+◌, ◌/◌, ◌≤◌}
use native.Mathlib.Nat.{zero-add}
use native.Mathlib.Omega.{arith}
use lib.ListN.{length, take, drop}
use lib.Dec.{leb}
use lib.Seq.{take-append_seam, drop-append_seam}
use borrow.Author.Tests.{leb-true, le-leb}
use Rattle.octets.specs.Numbers.{Octets}
use Rattle.laws.proofs.Tests.{both}
use Rattle.fields.specs.Fields.{apid_of}
use Rattle.octets.proofs.Laid.{laid-eq}
use Rattle.tc.specs.declared.Fields.{Fields}
use Rattle.tc.specs.Layout.{category, count_most, around, packet_of}
use Rattle.reader.specs.Reader.{reading_of, data_read}
use Rattle.tc.proofs.Laying.{flag_lt, selected_flag, packet_length}
use Rattle.reader.proofs.RoundTrip.{Valid, packet_reads, clean_reads}
use Rattle.writer.specs.declared.Order.{Order}
use Rattle.writer.specs.Writer.{fields_for, fields_right, buffer_after}
use Rattle.demands.specs.Packets.{reference_reader, reference_writer, order_of, Ordinary}
use Rattle.demands.specs.Refusing.{Writable}
use Rattle.demands.specs.Serving.{ReadsBack, WritesBack, RoundTrips}
use Rattle.demands.proofs.Demand1.{fits}

-- An order with the right fields asks for fields that have room in a packet.
order_valid : (o : Order) → fields_right o ≡ true → Valid (fields_for o)
order_valid o right =
    let all = both (leb o.pid 127 && leb o.count count_most) (leb o.ack 15) right in
    let first = both (leb o.pid 127) (leb o.count count_most) all.0 in
    let pid : o.pid ≤ 127 = leb-true _ _ first.0 in
    let count : o.count ≤ count_most = leb-true _ _ first.1 in
    let ack : o.ack ≤ 15 = leb-true _ _ all.1 in
    record { apid = omega arith; count = omega arith; checksum = flag_lt o.method; ack = omega arith }

-- An order that can be written leaves its packet at the front of the buffer, and what was behind it.
written_buffer : (o : Order) (data' buffer : List ℕ) → Writable o data' buffer
    → buffer_after o data' buffer ≡ packet_of (fields_for o) data' ++ drop (length data' + around) buffer
unfolding buffer_after
written_buffer o data' buffer w =
    let p : List ℕ = packet_of (fields_for o) data' in
    let n : length p ≡ length data' + around = packet_length (fields_for o) data' in
    rw (fits o data' buffer w)
    (laid-eq buffer 0 p (omega (arith, n, w.room)) ∙ ap (λ (k : ℕ). p ++ drop k buffer) (zero-add (length p) ∙ n))

module _ (o : Order) (data' buffer : List ℕ) (w : Writable o data' buffer) where
  written_reads : ReadsBack reference_reader o data' buffer (reference_writer o data' buffer)
  written_reads =
      let p : List ℕ = packet_of (fields_for o) data' in
      let rest : List ℕ = drop (length data' + around) buffer in
      let n : length data' + around ≡ length p = sym (packet_length (fields_for o) data') in
      let e : buffer_after o data' buffer ≡ p ++ rest = written_buffer o data' buffer w in
      let front : take (length data' + around) (buffer_after o data' buffer) ≡ p = ap₂ take n e ∙ take-append_seam p rest in
      let reads = packet_reads (fields_for o) data' (order_valid o w.fields) w.short in
      record {
        answer = fits o data' buffer w;
        verdict = ap (λ (x : List ℕ). (reading_of x).verdict) front ∙ reads.verdict;
        fields = ap (λ (x : List ℕ). (reading_of x).fields) front ∙ reads.fields;
        same = ap data_read front ∙ reads.same;
        beyond = ap₂ drop n e ∙ drop-append_seam p rest;
      }

-- The order of ordinary fields asks for those fields.
restored : (f : Fields) → Valid f → Ordinary f → fields_for (order_of f) ≡ f
restored f v o =
    let apid : apid_of (f.apid / 16) category ≡ f.apid = omega (arith, v.apid, o.category_is) in
    λ i. record { apid = apid i; count = f.count; checksum = selected_flag f.checksum v.checksum i; ack = f.ack; kind = f.kind; subtype = f.subtype; pad = sym o.pad_is i }

order_right : (f : Fields) → Valid f → fields_right (order_of f) ≡ true
order_right f v =
    rw (le-leb (f.apid / 16) 127 (omega (arith, v.apid)), le-leb f.count count_most (omega (arith, v.count)), le-leb f.ack 15 (omega (arith, v.ack)))

read_writes : (p buffer : List ℕ) → Octets p → (reading_of p).verdict ≡ Ok tt → Ordinary (reading_of p).fields
    → length p ≤ length buffer → WritesBack p buffer (reference_writer (order_of (reading_of p).fields) (data_read p) buffer)
read_writes p buffer octets h ordinary room =
    let f : Fields = (reading_of p).fields in
    let c = clean_reads p octets h in
    let w : Writable (order_of f) (data_read p) buffer =
    record { fields = order_right f c.valid; short = c.short; room = omega (arith, c.long) } in
    record {
      answer = fits (order_of f) (data_read p) buffer w ∙ ap Ok c.long;
      octets =
          written_buffer (order_of f) (data_read p) buffer w
          ∙ ap₂ (λ (x : List ℕ) (n : ℕ). x ++ drop n buffer) (ap (λ (g : Fields). packet_of g (data_read p)) (restored f c.valid ordinary) ∙ c.whole) c.long;
    }

-- The reader and the writer keep both round trips. Ruled out: a writer that refuses every order, one that lays its packet one octet further on, a reader that drops the last octet of the data.
pub both_ways : RoundTrips reference_writer reference_reader
both_ways = record { reads_back = written_reads; writes_back = read_writes }
