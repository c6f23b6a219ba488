-- docs/JUDGE.md: what the judge says to a line of a record outside of a group, and inside of one, and what goes on from it. The line is counted already.
use Rattle.std.specs.Prelude.{cond, List, [], ◌∷◌, ◌++◌, ℕ, length, Option}
use Rattle.characters.specs.Digits.{octets_in}
use Rattle.packetline.specs.Packet.{is_packet}
use Rattle.terminal.specs.Outcome.{octets_due}
use Rattle.hexline.specs.Line.{packet_input, packet_in, packet_after}
use Rattle.packline.specs.declared.Halt.{Halt}
use Rattle.packline.specs.declared.Halt.TheVariants.{Differs as halt_differs}
use Rattle.packline.specs.Record.{halt_of, refused_at}
use Rattle.telling.specs.Telling.{halt_line, halt_told}
use Rattle.beside.specs.Beside.{agrees}
use Rattle.differing.specs.Differing.{differs_text}
use Rattle.grouping.specs.declared.Group.{Group}
use Rattle.grouping.specs.Group.{due_at, opened, compared, closed}
use Rattle.desk.specs.declared.Desk.{Desk}
use Rattle.desk.specs.Place.{Place, profile_at, station_at, with_group, halting, at_desk, at_station}
use Rattle.judgeline.specs.declared.Found.{Found}
use Rattle.judgeline.specs.declared.Found.TheVariants.{Agrees, Differs, Bad}

-- `refused 70` with the number of the line, and why.
abbrev pub bad_says : ℕ → Halt → List ℕ
bad_says number halt = refused_at number ++ halt_line halt

-- The same where there may be no reason.
abbrev pub bad_told : ℕ → Option Halt → List ℕ
bad_told number halt = refused_at number ++ halt_told halt

-- A line outside of a group: an empty one is passed over, and a packet line is answered by the reference.
abbrev pub served_at : Place → List ℕ → Place
served_at m line =
    let octets : ℕ = length (octets_due (packet_input (profile_at m) (station_at m) (packet_in line))) in
    at_station (with_group m.desk (opened m.desk.group m.desk.number octets)) (packet_after (profile_at m) (station_at m) (packet_in line))

unfoldable pub outside_says : Place → List ℕ → List ℕ
outside_says m [] = []
outside_says m (c ∷ line) = cond (is_packet (c ∷ line)) [] (bad_says m.desk.number (halt_of (c ∷ line)))

unfoldable pub outside_becomes : Place → List ℕ → Place
outside_becomes m [] = m
outside_becomes m (c ∷ line) = cond (is_packet (c ∷ line)) (served_at m (c ∷ line)) (at_desk m (halting m.desk (halt_of (c ∷ line))))

-- What a line inside of a group is found to be, beside the frame due: it agrees, it differs, or it is no packet line. The empty line that ends the group stands beside none.
unfoldable pub found_by : Group → List ℕ → List ℕ → Found
found_by g out line = cond (is_packet line) (cond (agrees (due_at g out) (octets_in line)) Agrees Differs) Bad

-- The group behind a line that agrees.
abbrev pub behind_line : Group → List ℕ → List ℕ → Group
behind_line g out [] = closed g
behind_line g out (c ∷ line) = compared g out

-- What is said to it, and what goes on.
abbrev pub found_says : Found → Desk → List ℕ → List ℕ → List ℕ
found_says Agrees d out line = []
found_says Differs d out line = differs_text d.number d.group.packet (due_at d.group out) line
found_says Bad d out line = bad_says d.number (halt_of line)

abbrev pub agreed_desk : Desk → List ℕ → List ℕ → Desk
agreed_desk d out line = with_group d (behind_line d.group out line)

abbrev pub found_desk : Found → Desk → List ℕ → List ℕ → Desk
found_desk Agrees d out line = agreed_desk d out line
found_desk Differs d out line = halting d halt_differs
found_desk Bad d out line = halting d (halt_of line)

-- A line inside of a group.
unfoldable pub inside_says : Desk → List ℕ → List ℕ → List ℕ
inside_says d out line = found_says (found_by d.group out line) d out line

unfoldable pub inside_desk : Desk → List ℕ → List ℕ → Desk
inside_desk d out line = found_desk (found_by d.group out line) d out line
