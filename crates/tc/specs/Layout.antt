-- Document 01, "TC packet": the layout, once. The reader takes these places; the writer lays these octets.
use Rattle.std.specs.Prelude.{cond, List, [], ◌∷◌, ◌++◌, ℕ, ◌+◌, ◌-◌, eqb, length, take}
use Rattle.octets.specs.Numbers.{octet, word16, octets16}
use Rattle.fields.specs.Fields.{packet_id, id_of, sequence, control_of, header, header_of}
use Rattle.octets.specs.declared.copy.Span.{Span}
use Rattle.octets.specs.Copy.{placed}
use Rattle.crc.specs.Register.{crc_of}
use Rattle.iso.specs.Checksum.{iso_of}
use Rattle.tc.specs.declared.Fields.{Fields}
use Rattle.tc.specs.declared.Method.{Method}
use Rattle.tc.specs.declared.Method.TheVariants.{Iso, Crc}

-- The category of every TC.
abbrev pub category : ℕ
category = 12

-- The octets before the application data, and all that stand around it: those and the error control.
abbrev pub head_size : ℕ
head_size = 10

abbrev pub around : ℕ
around = 12

-- The most octets of application data, and of a packet.
abbrev pub data_most : ℕ
data_most = 236

abbrev pub packet_most : ℕ
packet_most = 248

-- The largest count, of 14 bits.
abbrev pub count_most : ℕ
count_most = 16383

-- The checksum flag of each method of error control.
abbrev pub flag_of : Method → ℕ
flag_of Iso = 0
flag_of Crc = 1

-- The method that a checksum flag, which has one bit, selects.
abbrev pub method_of : ℕ → Method
method_of flag = cond (eqb flag 1) Crc Iso

-- The value of each method over some octets: the ISO checksum, and the CRC.
abbrev pub value_by : Method → List ℕ → ℕ
value_by Iso octets = iso_of octets
value_by Crc octets = crc_of octets

-- The error control of a packet with these fields, over some octets: by the method that the checksum flag selects.
unfoldable pub error_control : Fields → List ℕ → ℕ
error_control f octets = value_by (method_of f.checksum) octets

-- The octets that a packet's error control is over: every earlier one.
abbrev pub covered : List ℕ → List ℕ
covered p = take (length p - 2) p

-- The fields, each at its place: packet ID at 0, sequence control at 2, then from 6 on an octet of PUS version, checksum flag and ack, and an octet each for type, subtype and pad.
unfoldable pub fields_of : List ℕ → Fields
fields_of p = record {
  apid = (packet_id (word16 p 0)).apid;
  count = (sequence (word16 p 2)).count;
  checksum = (header (octet p 6)).checksum;
  ack = (header (octet p 6)).ack;
  kind = octet p 7;
  subtype = octet p 8;
  pad = octet p 9;
}

-- The right error control of a packet.
abbrev pub right_control : List ℕ → ℕ
right_control p = error_control (fields_of p) (covered p)

-- Where the application data stands: from octet 10 up to the error control.
abbrev pub data_span : List ℕ → Span
data_span p = record { from = head_size; to = length p - 2 }

-- The application data.
unfoldable pub application_of : List ℕ → List ℕ
application_of p = placed (data_span p) p

-- The ten octets before the application data of a packet with these fields and so many octets of it; the length field is the total of octets minus 7.
unfoldable pub head_of : Fields → ℕ → List ℕ
head_of f octets =
    octets16 (id_of (record { version = 0; kind = 1; header = 1; apid = f.apid }))
    ++ octets16 (control_of (record { flags = 3; count = f.count }))
    ++ octets16 (octets + around - 7)
    ++ header_of (record { version = 0; checksum = f.checksum; ack = f.ack }) ∷ f.kind ∷ f.subtype ∷ f.pad ∷ []

-- The octets of a packet before its error control.
unfoldable pub body_of : Fields → List ℕ → List ℕ
body_of f application = head_of f (length application) ++ application

-- The whole packet.
unfoldable pub packet_of : Fields → List ℕ → List ℕ
packet_of f application = body_of f application ++ octets16 (error_control f (body_of f application))
