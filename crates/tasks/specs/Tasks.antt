-- What is said to a line, and what goes on from it: the line program, the reader of unit files, `pack`, `judge`, `frames` and `explain`.
use Rattle.std.specs.Prelude.{List, [], ℕ}
use Rattle.lines.specs.Feed.{LineProgram}
use Rattle.packetline.specs.Packet.{line_most, closing}
use Rattle.hexline.specs.Line.{line_answer, line_after}
use Rattle.hexline.specs.Whole.{answer_room}
use Rattle.desk.specs.declared.Desk.{Desk}
use Rattle.desk.specs.Place.{Place, profile_at, station_at, at_desk, at_station}
use Rattle.unitstep.specs.Step.{unit_becomes, unit_long_desk}
use Rattle.packstep.specs.Step.{pack_says, pack_becomes, pack_long_says, pack_long_desk}
use Rattle.judgestep.specs.Step.{judge_says, judge_becomes, judge_long_says, judge_long_desk}
use Rattle.frametext.specs.Text.{bad_text}
use Rattle.frameline.specs.Line.{frame_says}
use Rattle.explainline.specs.Line.{bad_text as no_packet_text, explain_says}
use Rattle.tasks.specs.declared.Task.{Task}
use Rattle.tasks.specs.declared.Task.TheVariants.{Line, Unit, Pack, Judge, Frames, Explain}

-- The line program of document 01.
abbrev pub line_says : Place → List ℕ → List ℕ
line_says m line = line_answer (profile_at m) (station_at m) line

abbrev pub line_becomes : Place → List ℕ → Place
line_becomes m line = at_station m.desk (line_after (profile_at m) (station_at m) line)

-- What each of them says to a line, and what goes on; and the same of a line that is too long.
abbrev pub task_says : Task → Place → List ℕ → List ℕ
task_says Line m line = line_says m line
task_says Unit m line = []
task_says Pack m line = pack_says m line
task_says Judge m line = judge_says m line
task_says Frames m line = frame_says line
task_says Explain m line = explain_says (profile_at m) line

abbrev pub task_becomes : Task → Place → List ℕ → Place
task_becomes Line m line = line_becomes m line
task_becomes Unit m line = unit_becomes m line
task_becomes Pack m line = pack_becomes m line
task_becomes Judge m line = judge_becomes m line
task_becomes Frames m line = m
task_becomes Explain m line = m

abbrev pub task_long_says : Task → Desk → List ℕ
task_long_says Line d = closing 2 0
task_long_says Unit d = []
task_long_says Pack d = pack_long_says d
task_long_says Judge d = judge_long_says d
task_long_says Frames d = bad_text
task_long_says Explain d = no_packet_text

abbrev pub task_long_desk : Task → Desk → Desk
task_long_desk Line d = d
task_long_desk Unit d = unit_long_desk d
task_long_desk Pack d = pack_long_desk d
task_long_desk Judge d = judge_long_desk d
task_long_desk Frames d = d
task_long_desk Explain d = d

-- The six as programs over lines: a line has at most 4,096 characters, and no answer more than 16,384.
abbrev pub task_program : Task → LineProgram Place
task_program t = record {
  bound = line_most;
  most = answer_room;
  says = task_says t;
  becomes = task_becomes t;
  says_long = λ m. task_long_says t m.desk;
  becomes_long = λ m. at_desk m (task_long_desk t m.desk);
}
