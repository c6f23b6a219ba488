-- docs/UNITS.md, "`pack UNIT [PACKETS]`": what is said to a line, and what goes on from it.
use Rattle.std.specs.Prelude.{Bool, true, false, cond, List, [], ◌∷◌, ℕ}
use Rattle.packetline.specs.Packet.{is_packet}
use Rattle.packline.specs.Record.{record_of, record_after, halt_of, refused_at}
use Rattle.packline.specs.declared.Halt.TheVariants.{Long}
use Rattle.grouping.specs.Group.{next_number}
use Rattle.desk.specs.declared.Desk.{Desk}
use Rattle.desk.specs.Place.{Place, profile_at, station_at, counted, halting, is_halted, at_desk, counting, at_station}

-- `pack`: an empty line is passed over; a packet line is given its record; any other stops the program.
abbrev pub is_empty : List ℕ → Bool
is_empty [] = true
is_empty (c ∷ line) = false

abbrev pub record_says : Place → List ℕ → List ℕ
record_says m line = record_of (profile_at m) (station_at m) line

abbrev pub record_becomes : Place → List ℕ → Place
record_becomes m line = at_station m.desk (record_after (profile_at m) (station_at m) line)

unfoldable pub pack_says : Place → List ℕ → List ℕ
pack_says m line =
    cond (is_halted m.desk) []
    (cond (is_empty line) []
    (cond (is_packet line) (record_says m line) (refused_at (next_number m.desk.number))))

unfoldable pub pack_becomes : Place → List ℕ → Place
pack_becomes m line =
    cond (is_halted m.desk) m
    (cond (is_empty line) (counting m)
    (cond (is_packet line) (record_becomes (counting m) line)
    (at_desk m (halting (counted m.desk) (halt_of line)))))

unfoldable pub pack_long_says : Desk → List ℕ
pack_long_says d = cond (is_halted d) [] (refused_at (next_number d.number))

unfoldable pub pack_long_desk : Desk → Desk
pack_long_desk d = cond (is_halted d) d (halting (counted d) Long)
