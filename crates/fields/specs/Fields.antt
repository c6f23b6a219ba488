-- Document 01, "Packet layouts": the fields of the packet ID, of the sequence control and of the first octet of a TC's data field, in division and remainder.
use Rattle.std.specs.Prelude.{ℕ, ◌+◌, ◌*◌, ◌/◌, ◌%◌}
use Rattle.fields.specs.declared.PacketId.{PacketId}
use Rattle.fields.specs.declared.Sequence.{Sequence}
use Rattle.fields.specs.declared.Header.{Header}

-- A packet ID taken apart: version 3 bits, type 1 bit, data field header flag 1 bit, APID 11 bits.
abbrev pub packet_id : ℕ → PacketId
packet_id id = record { version = id / 8192; kind = id / 4096 % 2; header = id / 2048 % 2; apid = id % 2048 }

-- A packet ID put together; of each field the bits that it has room for.
abbrev pub id_of : PacketId → ℕ
id_of f = f.version % 8 * 8192 + f.kind % 2 * 4096 + f.header % 2 * 2048 + f.apid % 2048

-- A sequence control taken apart: flags 2 bits, count 14 bits.
abbrev pub sequence : ℕ → Sequence
sequence control = record { flags = control / 16384; count = control % 16384 }

-- A sequence control put together; of each field the bits that it has room for.
abbrev pub control_of : Sequence → ℕ
control_of f = f.flags % 4 * 16384 + f.count % 16384

-- The first octet of a TC's data field header taken apart: PUS version 3 bits, checksum flag 1 bit, ack 4 bits.
abbrev pub header : ℕ → Header
header octet = record { version = octet / 32; checksum = octet / 16 % 2; ack = octet % 16 }

-- That octet put together; of each field the bits that it has room for.
abbrev pub header_of : Header → ℕ
header_of f = f.version % 8 * 32 + f.checksum % 2 * 16 + f.ack % 16

-- The APID of a process ID, 7 bits, and a category, 4 bits.
abbrev pub apid_of : ℕ → ℕ → ℕ
apid_of pid category = pid % 128 * 16 + category % 16
