-- Document 01, "The line program": what one line is answered.
use Rattle.std.specs.Prelude.{cond, List, ◌++◌, ℕ, take}
use Rattle.map.specs.declared.Profile.{Profile}
use Rattle.terminal.specs.Outcome.{Input, verdict_on, frames_due, out_after}
use Rattle.terminal.specs.Run.{Machine, Step, input_for, after}
use Rattle.characters.specs.Digits.{octets_in}
use Rattle.packetline.specs.Packet.{is_packet, lines_of, closing, closing_of}
use Rattle.lineunit.specs.Unit.{line_time}

-- What goes from line to line: the terminal's machine, and the output buffer as it stands.
pub record Station : Type 0 where
  pub machine : Machine
  pub out : List ℕ

-- A packet at the terminal: time is zero throughout, and the buffer is lent at each line.
abbrev pub step_for : Station → List ℕ → Step
step_for m packet = record { packet = packet; time = line_time; out = m.out }

abbrev pub packet_input : Profile → Station → List ℕ → Input
packet_input p m packet = input_for p m.machine (step_for m packet)

-- The packet that a line states: its octets, the first 2,048 of them. A packet line has no more.
abbrev pub packet_most : ℕ
packet_most = 2048

unfoldable pub packet_in : List ℕ → List ℕ
packet_in line = take packet_most (octets_in line)

-- What a packet is answered: its frames, one a line, then the closing line.
unfoldable pub packet_answer : Profile → Station → List ℕ → List ℕ
packet_answer p m packet = lines_of (frames_due (packet_input p m packet)) ++ closing_of (verdict_on (packet_input p m packet))

-- What goes on from a packet.
unfoldable pub packet_after : Profile → Station → List ℕ → Station
packet_after p m packet = record { machine = after p m.machine (step_for m packet); out = out_after (packet_input p m packet) }

-- What a line is answered: 0200 where it is no packet line.
unfoldable pub line_answer : Profile → Station → List ℕ → List ℕ
line_answer p m line = cond (is_packet line) (packet_answer p m (octets_in line)) (closing 2 0)

-- What goes on from a line: one that is no packet line changes nothing.
unfoldable pub line_after : Profile → Station → List ℕ → Station
line_after p m line = cond (is_packet line) (packet_after p m (octets_in line)) m
