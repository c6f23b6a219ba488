-- What is laid out reads back, and what reads cleanly is laid out as the same octets.
-- Assumes nothing.
use Rattle.std.specs.Prelude.{Ok}
use mathlib.Core.Path.{◌≡◌, sym, ap, ap₂, ◌∙◌}
use mathlib.Core.Bool.{Bool, true, ◌&&◌, and-eq-true_iff}
use mathlib.Core.List.{List, [], ◌∷◌, ◌++◌}
use Prim.Native.Nat.{ℕ, ◌+◌, ◌-◌, ◌≤◌, ◌<◌}
use native.Mathlib.Omega.{arith}
use lib.ListN.{length, take, drop, take-append-drop}
use lib.Dec.{eqb, leb}
use lib.Seq.{take-add, take_at}
use borrow.Author.Tests.{le-leb, eq-eqb, leb-true, eqb-true}
use Rattle.octets.specs.Numbers.{Octets, octet, word16, octets16}
use Rattle.fields.specs.Fields.{packet_id, id_of, sequence, control_of, header, header_of}
use Rattle.octets.proofs.Between.{between-eq, between-length}
use Rattle.octets.proofs.Words.{word16_behind, octets16_of_word16, run, run_take, last_two}
use Rattle.checks.specs.Verdict.{is_accepted}
use Rattle.checks.specs.Table.{AllHold}
use Rattle.checks.proofs.Verdicts.{accepted_holds}
use Rattle.laws.specs.First.{first_from}
use Rattle.laws.specs.Each.{Each}
use Rattle.laws.proofs.First.{none-wrong}
use Rattle.tc.specs.declared.Fields.{Fields}
use Rattle.tc.specs.Layout.{around, data_most, error_control, covered, right_control, fields_of, application_of, head_of, body_of, packet_of}
use Rattle.heading.specs.Heading.{length_right, header_tests, first_fault, header_fault}
use Rattle.reader.specs.Reader.{control_right, reader_rows, judged, reading_of, data_read}
use Rattle.reader.proofs.Judged.{judged-accepted}
use Rattle.tc.proofs.Laying.{body_length, packet_length}

-- Fields that have room in their places.
pub record Valid (f : Fields) : Type 0 where
  pub apid : f.apid < 2048
  pub count : f.count < 16384
  pub checksum : f.checksum < 2
  pub ack : f.ack < 16

module _ (f : Fields) (application : List ℕ) (v : Valid f) (short : length application ≤ 236) where
  abbrev p : List ℕ
  p = packet_of f application

  size : length p ≡ length application + around
  size = packet_length f application

  packet_length_right : length_right p ≡ true
  unfolding length_right packet_of body_of head_of
  packet_length_right =
      let field : length p ≡ word16 p 4 + 7 = size ∙ omega arith in
      simp (le-leb 12 (length p) (omega (arith, size)), le-leb (length p) 248 (omega (arith, size)), eq-eqb _ _ field)

  packet_covered : covered p ≡ body_of f application
  unfolding packet_of
  packet_covered =
      let end : length (body_of f application) ≡ length p - 2 = omega (arith, size, body_length f application) in
      take_at (body_of f application) (octets16 (error_control f (body_of f application))) (length p - 2) end

  packet_header_fault : header_fault p ≡ 0
  unfolding header_fault first_fault first_from packet_of body_of head_of
  packet_header_fault =
      let version : (packet_id (word16 p 0)).version ≡ 0 = omega arith in
      let kind : (packet_id (word16 p 0)).kind ≡ 1 = omega arith in
      let flag : (packet_id (word16 p 0)).header ≡ 1 = omega arith in
      let flags : (sequence (word16 p 2)).flags ≡ 3 = omega arith in
      let pus : (header (octet p 6)).version ≡ 0 = omega arith in
      simp (eq-eqb _ _ version, eq-eqb _ _ kind, eq-eqb _ _ flag, eq-eqb _ _ flags, eq-eqb _ _ pus)

  pub packet_fields : fields_of p ≡ f
  unfolding fields_of packet_of body_of head_of
  packet_fields =
      let apid : (packet_id (word16 p 0)).apid ≡ f.apid = omega arith in
      let count : (sequence (word16 p 2)).count ≡ f.count = omega arith in
      let checksum : (header (octet p 6)).checksum ≡ f.checksum = omega arith in
      let ack : (header (octet p 6)).ack ≡ f.ack = omega arith in
      λ i. record { apid = apid i; count = count i; checksum = checksum i; ack = ack i; kind = f.kind; subtype = f.subtype; pad = f.pad }

  packet_control_right : control_right p ≡ true
  unfolding control_right packet_of
  packet_control_right =
      let end : length p - 2 ≡ length (body_of f application) = omega (arith, size, body_length f application) in
      eq-eqb _ _
      (ap (λ (n : ℕ). word16 p n) end
      ∙ word16_behind (body_of f application) (error_control f (body_of f application)) []
      ∙ sym (ap₂ error_control packet_fields packet_covered))

  pub packet_judged : judged p ≡ Ok tt
  packet_judged =
      judged-accepted p (omega (arith, size)) packet_length_right packet_control_right (eq-eqb _ _ packet_header_fault)

  pub packet_application : application_of p ≡ application
  unfolding application_of packet_of body_of head_of
  packet_application =
      let end : length application ≡ length p - 2 - 10 = omega (arith, size) in
      between-eq 10 (length p - 2) p (omega (arith, size)) (omega arith)
      ∙ take_at application (octets16 (error_control f (body_of f application))) (length p - 2 - 10) end

-- What an accepted packet's octets are, number by number.
record Clean (p : List ℕ) : Type 0 where
  least : 12 ≤ length p
  most : length p ≤ 248
  total : length p ≡ word16 p 4 + 7
  control : word16 p (length p - 2) ≡ right_control p
  version : (packet_id (word16 p 0)).version ≡ 0
  kind : (packet_id (word16 p 0)).kind ≡ 1
  flag : (packet_id (word16 p 0)).header ≡ 1
  flags : (sequence (word16 p 2)).flags ≡ 3
  pus : (header (octet p 6)).version ≡ 0

clean : (p : List ℕ) → judged p ≡ Ok tt → Clean p
unfolding reader_rows length_right control_right header_fault first_fault AllHold judged
clean p h =
    let rows : AllHold (reader_rows p) = accepted_holds (reader_rows p) (ap is_accepted h) in
    let sizes = (and-eq-true_iff (leb 12 (length p) && leb (length p) 248) (eqb (length p) (word16 p 4 + 7))).0 rows.1.0 in
    let ends = (and-eq-true_iff (leb 12 (length p)) (leb (length p) 248)).0 sizes.0 in
    let tests : List Bool = header_tests (packet_id (word16 p 0)) (sequence (word16 p 2)) (header (octet p 6)) in
    let all : Each (λ (b : Bool). b ≡ true) tests = none-wrong 1 tests (omega arith) (eqb-true _ _ rows.1.1.1.0) in
    record {
      least = leb-true _ _ ends.0;
      most = leb-true _ _ ends.1;
      total = eqb-true _ _ sizes.1;
      control = eqb-true _ _ rows.1.1.0;
      version = eqb-true _ _ all.0;
      kind = eqb-true _ _ all.1.0;
      flag = eqb-true _ _ all.1.1.0;
      flags = eqb-true _ _ all.1.1.1.0;
      pus = eqb-true _ _ all.1.1.1.1.0;
    }

-- A packet that reads cleanly is what its own fields and application data lay out.
module _ (p : List ℕ) (octets : Octets p) (h : judged p ≡ Ok tt) where
  k : Clean p
  k = clean p h

  application_length : length (application_of p) ≡ length p - 12
  unfolding application_of
  application_length = between-length 10 (length p - 2) p (omega (arith, k.least)) (omega arith) ∙ omega arith

  clean_head : head_of (fields_of p) (length (application_of p)) ≡ run p 0 10
  unfolding head_of fields_of run
  clean_head =
      let id : id_of (record { version = 0; kind = 1; header = 1; apid = (packet_id (word16 p 0)).apid }) ≡ word16 p 0 =
      omega (arith, k.version, k.kind, k.flag) in
      let control : control_of (record { flags = 3; count = (sequence (word16 p 2)).count }) ≡ word16 p 2 = omega (arith, k.flags) in
      let total : length (application_of p) + 12 - 7 ≡ word16 p 4 = omega (arith, application_length, k.total, k.least) in
      let first : header_of (record { version = 0; checksum = (header (octet p 6)).checksum; ack = (header (octet p 6)).ack }) ≡ octet p 6 =
      omega (arith, k.pus, octets 6) in
      ap₂ (λ (a b : List ℕ). a ++ b ++ octets16 (length (application_of p) + 12 - 7) ++ header_of (record { version = 0; checksum = (header (octet p 6)).checksum; ack = (header (octet p 6)).ack }) ∷ octet p 7 ∷ octet p 8 ∷ octet p 9 ∷ [])
      (ap octets16 id ∙ octets16_of_word16 p 0 (octets 0) (octets 1))
      (ap octets16 control ∙ octets16_of_word16 p 2 (octets 2) (octets 3))
      ∙ ap₂ (λ (a : List ℕ) (b : ℕ). octet p 0 ∷ octet p 1 ∷ octet p 2 ∷ octet p 3 ∷ [] ++ a ++ b ∷ octet p 7 ∷ octet p 8 ∷ octet p 9 ∷ [])
      (ap octets16 total ∙ octets16_of_word16 p 4 (octets 4) (octets 5)) first

  clean_body : body_of (fields_of p) (application_of p) ≡ covered p
  unfolding body_of application_of
  clean_body =
      let n : ℕ = length p - 2 in
      let part : application_of p ≡ take (n - 10) (drop 10 p) = between-eq 10 n p (omega (arith, k.least)) (omega arith) in
      let n' : 10 + (n - 10) ≡ n = omega (arith, k.least) in
      ap₂ (λ (a b : List ℕ). a ++ b) (clean_head ∙ sym (run_take p 0 10 (omega (arith, k.least)))) part
      ∙ sym (take-add 10 (n - 10) p) ∙ ap (λ (m : ℕ). take m p) n'

  clean_control : octets16 (right_control p) ≡ drop (length p - 2) p
  clean_control =
      let n : ℕ = length p - 2 in
      ap octets16 (sym k.control)
      ∙ octets16_of_word16 p n (octets n) (octets (n + 1))
      ∙ sym (last_two p (omega (arith, k.least)))

  pub clean_packet : packet_of (fields_of p) (application_of p) ≡ p
  unfolding packet_of
  clean_packet =
      ap (λ (b : List ℕ). b ++ octets16 (error_control (fields_of p) b)) clean_body
      ∙ ap (λ (r : List ℕ). covered p ++ r) clean_control
      ∙ take-append-drop (length p - 2) p

-- ---- as the reader returns it

-- What a packet reads as: accepted, with those fields and that data.
pub record ReadsAs (f : Fields) (application packet : List ℕ) : Type 0 where
  pub verdict : (reading_of packet).verdict ≡ Ok tt
  pub fields : (reading_of packet).fields ≡ f
  pub same : data_read packet ≡ application

-- A packet of fields that have room, and of data that is not too long, reads as those.
pub packet_reads : (f : Fields) (application : List ℕ) → Valid f → length application ≤ data_most → ReadsAs f application (packet_of f application)
unfolding reading_of application_of
packet_reads f application v short =
    let accepted : judged (packet_of f application) ≡ Ok tt = packet_judged f application v short in
    record { verdict = accepted; fields = rw accepted (packet_fields f application v short); same = rw accepted (packet_application f application v short) }

-- What a packet that reads cleanly is: its own fields and data, laid out.
pub record LaidOut (p : List ℕ) : Type 0 where
  pub whole : packet_of (reading_of p).fields (data_read p) ≡ p
  pub valid : Valid (reading_of p).fields
  pub long : length (data_read p) + around ≡ length p
  pub short : length (data_read p) ≤ data_most

fields_valid : (p : List ℕ) → Valid (fields_of p)
unfolding fields_of
fields_valid p = record { apid = omega arith; count = omega arith; checksum = omega arith; ack = omega arith }

-- So is every list of octets that reads cleanly.
pub clean_reads : (p : List ℕ) → Octets p → (reading_of p).verdict ≡ Ok tt → LaidOut p
unfolding reading_of application_of
clean_reads p octets h =
    let n : length (application_of p) ≡ length p - 12 = application_length p octets h in
    record {
      whole = rw h (clean_packet p octets h);
      valid = rw h (fields_valid p);
      long = rw h (omega (arith, n, (clean p h).least));
      short = rw h (omega (arith, n, (clean p h).most));
    }
