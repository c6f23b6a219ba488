-- Document 02, wish 7: "It answers conforming exactly when each TC's frames are the frames due, in order and number."
use Rattle.std.specs.Prelude.{◌≡◌, true, List, [], ◌∷◌, ℕ, ◌+◌, length}
use Rattle.characters.specs.Digits.{octets_in}
use Rattle.tm.specs.Frame.{timed}
use Rattle.packetline.specs.Packet.{is_packet}
use Rattle.map.specs.declared.Profile.{Profile}
use Rattle.terminal.specs.Outcome.{frames_due}
use Rattle.hexline.specs.Line.{Station, packet_input, packet_after}
use Rattle.conforming.specs.Groups.{Line, Group, groups_of}

-- The frames due for a TC, by the reference: those of the packet that its line states, with time zero.
abbrev pub frames_for : Profile → Station → Line → List (List ℕ)
frames_for p m tc = frames_due (packet_input p m (octets_in tc))

-- What the reference becomes.
abbrev pub after_tc : Profile → Station → Line → Station
after_tc p m tc = packet_after p m (octets_in tc)

-- A line gives a frame: its octets, in digits of either case, are the frame's with a time of its own.
pub record Gives (frame : List ℕ) (line : Line) : Type 0 where
  pub digits : is_packet line ≡ true
  pub time : List ℕ
  pub six : length time ≡ 6
  pub octets : octets_in line ≡ timed time frame

-- Lines give frames, in order and number.
unfoldable pub GiveAll : List (List ℕ) → List Line → Type 0
GiveAll [] [] = Unit
GiveAll [] (line ∷ lines) = ⊥
GiveAll (frame ∷ frames) [] = ⊥
GiveAll (frame ∷ frames) (line ∷ lines) = Gives frame line × GiveAll frames lines

-- Groups conform, from what goes from packet to packet on: each TC is a packet line, and its TM lines give the frames due.
unfoldable pub GroupsConform : Profile → Station → List Group → Type 0
GroupsConform p m [] = Unit
GroupsConform p m ([] ∷ rest) = GroupsConform p m rest
GroupsConform p m ((tc ∷ tms) ∷ rest) = (is_packet tc ≡ true) × (GiveAll (frames_for p m tc) tms × GroupsConform p (after_tc p m tc) rest)

-- A record's lines conform.
abbrev pub Conforms : Profile → Station → List Line → Type 0
Conforms p m lines = GroupsConform p m (groups_of lines)

-- How many packets and TM lines some groups have.
unfoldable pub packets_in : List Group → ℕ
packets_in [] = 0
packets_in ([] ∷ rest) = packets_in rest
packets_in ((tc ∷ tms) ∷ rest) = packets_in rest + 1

unfoldable pub frames_in : List Group → ℕ
frames_in [] = 0
frames_in ([] ∷ rest) = frames_in rest
frames_in ((tc ∷ tms) ∷ rest) = length tms + frames_in rest
