-- What goes into the worked cases: packets from their fields, counts, and inputs.
use Rattle.std.specs.Prelude.{true, false, List, [], ◌∷◌, ◌++◌, ℕ, replicate}
use Rattle.octets.specs.Numbers.{octets16, octets32}
use Rattle.tc.specs.declared.Method.TheVariants.{Crc}
use Rattle.tc.specs.Layout.{packet_of}
use Rattle.writer.specs.Writer.{fields_for}
use Rattle.map.specs.declared.Profile.{Profile}
use Rattle.map.specs.Made.{all_flags, area_of, area_with, profile_with}
use Rattle.counts.specs.Counts.{counts_in}
use Rattle.decide.specs.declared.State.{State}
use Rattle.terminal.specs.Outcome.{Input, input}
use Rattle.lineunit.specs.Unit.{line_profile, line_time, line_store, line_out}

-- A telecommand of a type and subtype to PID 5, count 0, that asks for both reports, with the CRC.
abbrev pub command : ℕ → ℕ → List ℕ → List ℕ
command kind subtype application = packet_of (fields_for (record { pid = 5; count = 0; ack = 9; method = Crc; kind = kind; subtype = subtype })) application

-- A block's start and its length in words.
abbrev pub block : ℕ → ℕ → List ℕ
block start words = octets32 start ++ octets16 words

-- The first line of document 01's example.
abbrev pub first_line : List ℕ
first_line = 0x18 ∷ 0x5c ∷ 0xc0 ∷ 0x00 ∷ 0x00 ∷ 0x05 ∷ 0x19 ∷ 0x11 ∷ 0x01 ∷ 0x00 ∷ 0x01 ∷ 0x67 ∷ []

-- The second: its last octet is wrong.
abbrev pub second_line : List ℕ
second_line = 0x18 ∷ 0x5c ∷ 0xc0 ∷ 0x00 ∷ 0x00 ∷ 0x05 ∷ 0x19 ∷ 0x11 ∷ 0x01 ∷ 0x00 ∷ 0x01 ∷ 0x68 ∷ []

-- The counts of categories 1 and 9 that a packet comes at.
abbrev pub from : ℕ → ℕ → State
from reports services = record { counts = counts_in (octets16 reports ++ octets16 services) }

-- A packet at the line program, from those counts.
abbrev pub line_input : State → List ℕ → Input
line_input state packet = input line_profile state line_time packet line_store line_out

-- A packet under a profile over a store of so many zero octets, from counts 0 and 0, with the line program's time and output buffer.
abbrev pub over : Profile → ℕ → List ℕ → Input
over p octets packet = input p (from 0 0) line_time packet (replicate octets 0) line_out

-- ---- two profiles over a store of 512 octets, the one strictly wider than the other

-- The narrower: flags load and check; one area, ID 1, start 1000 hex, 64 words, store word 0, without the right to check.
abbrev pub narrow : Profile
narrow =
    profile_with 5 (record { load = true; dump = false; check = true; connection = false })
    (area_with (record { load = true; dump = true; check = false }) 1 0x1000 64 0 ∷ [])

-- The wider: all flags; area 1 of 128 words with all rights, and an area 2.
abbrev pub wide : Profile
wide = profile_with 5 all_flags (area_of 1 0x1000 128 0 ∷ area_of 2 0x2000 8 128 ∷ [])
