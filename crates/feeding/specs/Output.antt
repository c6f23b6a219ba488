-- docs/UNITS.md and docs/EXPLAIN.md: the unit that a file states, and the whole output of `pack` and of `explain` over a unit file and packets.
use Rattle.std.specs.Prelude.{cond, List, [], ℕ, Option, Some, take, replicate, is_ok}
use Rattle.laws.specs.Fold.{reached}
use Rattle.lines.specs.Lines.{lines_of}
use Rattle.lines.specs.Feed.{line_becomes, output_of}
use Rattle.map.specs.Sound.{store_most}
use Rattle.clauses.specs.Clauses.{clause_of}
use Rattle.unit.specs.Unit.{nothing_stated}
use Rattle.packline.specs.declared.Halt.{Halt}
use Rattle.packline.specs.declared.Halt.TheVariants.{Unit}
use Rattle.telling.specs.Telling.{unit_line, unsound_line}
use Rattle.explainline.specs.Line.{explain_output}
use Rattle.tasks.specs.declared.Task.TheVariants as Tasks
use Rattle.desk.specs.declared.Desk.{Desk}
use Rattle.desk.specs.Place.{Place, desk_for, is_halted}
use Rattle.unitstep.specs.Step.{unit_end}
use Rattle.tasks.specs.Tasks.{task_program}

-- The buffer for the frames: 4,096 zero octets.
abbrev pub frames_room : List ℕ
frames_room = replicate 4096 0

-- Before the first line of a unit file nothing is stated, and the store is all zero.
abbrev pub unit_first : Place
unit_first = record { desk = desk_for nothing_stated; store = replicate store_most 0; out = frames_room }

-- Behind the last line of a unit file.
unfoldable pub unit_behind : List ℕ → Place
unit_behind file = reached (line_becomes (task_program Tasks.Unit)) unit_first (lines_of file)

-- The unit that a file states, or its first bad line: where that is missing which a unit has, the one after the last.
abbrev pub unit_of : List ℕ → Desk
unit_of file = unit_end (unit_behind file).desk

-- A unit before its first packet: counts of 0, and its store.
abbrev pub pack_first : Desk → List ℕ → Place
pack_first unit store = record { desk = desk_for unit.draft; store = take unit.draft.stored store; out = frames_room }

-- What is told of a unit file that its reader stopped in: its first bad line. Nothing else stops the reader.
abbrev pub bad_unit : ℕ → Option Halt → List ℕ
bad_unit number (Some (Unit fault)) = unit_line number fault
bad_unit number other = []

-- What a program that takes a unit prints: the first bad line of the unit's file, `refused 41`, or what it says under a sound unit.
abbrev pub under_unit : Desk → List ℕ → List ℕ
under_unit unit said =
    cond (is_halted unit) (bad_unit unit.number unit.halt)
    (cond (is_ok (clause_of unit.draft.profile unit.draft.stored)) said unsound_line)

-- What `pack` prints for a unit and its store: under a sound unit the record of the packets.
unfoldable pub packed : Desk → List ℕ → List ℕ → List ℕ
packed unit store packets = under_unit unit (output_of (task_program Tasks.Pack) (pack_first unit store) packets)

-- What `pack` prints for a unit file and packets.
abbrev pub pack_output : List ℕ → List ℕ → List ℕ
pack_output file packets = packed (unit_of file) (unit_behind file).store packets

-- What `explain` prints for a unit file and packets: under a sound unit an answer for each line, by the unit's profile.
abbrev pub explained_under : List ℕ → List ℕ → List ℕ
explained_under file packets = under_unit (unit_of file) (explain_output (unit_of file).draft.profile packets)
