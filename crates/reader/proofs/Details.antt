-- Of a packet of octets: its application data is octets, and every detail of the reader's has 16 bits.
-- Assumes nothing.
use mathlib.Core.List.{List}
use Prim.Native.Nat.{ℕ, ◌<◌}
use native.Mathlib.Omega.{arith}
use Rattle.laws.specs.Each.{Each}
use Rattle.laws.proofs.First.{first_most}
use Rattle.octets.specs.Numbers.{Octets, octet, word16}
use Rattle.octets.proofs.Octets.{between_octets}
use Rattle.fields.specs.Fields.{packet_id, sequence, header}
use Rattle.checks.specs.declared.Refusal.{Refusal}
use Rattle.checks.specs.Table.{Row}
use Rattle.tc.specs.Layout.{covered, right_control, fields_of, application_of}
use Rattle.tc.proofs.Laying.{control_lt}
use Rattle.heading.specs.Heading.{header_tests, first_fault, header_fault}
use Rattle.reader.specs.Reader.{reader_rows}

-- The application data of a packet of octets is octets.
pub application_octets : (packet : List ℕ) → Octets packet → Octets (application_of packet)
unfolding application_of
application_octets packet h = between_octets _ _ packet h

-- What its fields are at most, of those that a detail may tell.
pub record FieldsSmall (packet : List ℕ) : Type 0 where
  pub apid : (fields_of packet).apid < 2048
  pub kind : (fields_of packet).kind < 256
  pub subtype : (fields_of packet).subtype < 256

pub fields_small : (packet : List ℕ) → Octets packet → FieldsSmall packet
unfolding fields_of
fields_small packet h = record { apid = omega arith; kind = h 7; subtype = h 8 }

-- ---- the reader's details

header_small : (packet : List ℕ) → header_fault packet < 65536
unfolding header_fault first_fault
header_small packet = omega (arith, first_most 1 (header_tests (packet_id (word16 packet 0)) (sequence (word16 packet 2)) (header (octet packet 6))))

control_small : (packet : List ℕ) → right_control packet < 65536
control_small packet = control_lt (fields_of packet) (covered packet)

-- The detail of each of the reader's rows has 16 bits.
pub reader_details : (packet : List ℕ) → Each (λ (r : Row Refusal). r.refusal.detail < 65536) (reader_rows packet)
unfolding reader_rows
reader_details packet = (omega arith, (omega arith, (control_small packet, (header_small packet, tt))))
