-- docs/JUDGE.md: the text of a verdict, and the whole output of `judge` over a unit file and a record.
use Rattle.std.specs.Prelude.{cond, List, ◌++◌, ℕ, ◌%◌, ◌^◌, length, leb, Result, Ok, Err}
use Rattle.laws.specs.Fold.{reached}
use Rattle.lines.specs.Lines.{lines_of}
use Rattle.lines.specs.Feed.{line_becomes, output_of}
use Rattle.packetline.specs.Packet.{line_most}
use Rattle.clauses.specs.declared.Clause.{Clause}
use Rattle.clauses.specs.Clauses.{clause_of}
use Rattle.packline.specs.declared.Halt.{Halt}
use Rattle.packline.specs.declared.Halt.TheVariants.{Long}
use Rattle.packline.specs.Record.{halt_of, refused_at}
use Rattle.telling.specs.Telling.{unsound_line, halt_line}
use Rattle.clausewords.specs.Clausewords.{clause_line}
use Rattle.differing.specs.Differing.{differs_text}
use Rattle.conforming.specs.Groups.{Line}
use Rattle.conforming.specs.Verdict.{Verdict, Conforming, Differs, Refused70, Refused71}
use Rattle.desk.specs.declared.Desk.{Desk}
use Rattle.desk.specs.Place.{Place, is_halted}
use Rattle.concluding.specs.Closing.{conforming_text, no_packet_text}
use Rattle.judgestep.specs.Step.{end_says}
use Rattle.tasks.specs.declared.Task.TheVariants.{Judge}
use Rattle.tasks.specs.Tasks.{task_program}
use Rattle.feeding.specs.Output.{bad_unit, unit_of, unit_behind, pack_first}

-- Numbers are told in 64 bits.
abbrev pub told : ℕ → ℕ
told n = n % 2 ^ 64

-- Why a line is no packet line.
abbrev pub reason_of : Line → Halt
reason_of line = cond (leb (length line) line_most) (halt_of line) Long

-- The text of a verdict.
unfoldable pub verdict_text : Verdict → List ℕ
verdict_text (Conforming packets frames) = conforming_text (told packets) (told frames)
verdict_text (Differs number tc due line) = differs_text (told number) (told tc) due line
verdict_text (Refused70 number line) = refused_at (told number) ++ halt_line (reason_of line)
verdict_text Refused71 = no_packet_text

-- What the judge says of a whole record, line by line and at its end.
unfoldable pub judged_by : Place → List ℕ → List ℕ
judged_by m text = output_of (task_program Judge) m text ++ end_says (reached (line_becomes (task_program Judge)) m (lines_of text))

-- What is printed of a unit that is stated: what is said under it where it fails no clause, else `refused 41` and behind it the clause that fails.
abbrev pub by_clause : List ℕ → Result Unit Clause → List ℕ
by_clause said (Ok _) = said
by_clause said (Err clause) = unsound_line ++ clause_line clause

-- What `judge` prints for a unit and its store: the first bad line of its file; `refused 41` and the clause that fails, whatever the record; or what is said of the record.
unfoldable pub judged_under : Desk → List ℕ → List ℕ → List ℕ
judged_under unit store text =
    cond (is_halted unit) (bad_unit unit.number unit.halt)
    (by_clause (judged_by (pack_first unit store) text) (clause_of unit.draft.profile unit.draft.stored))

-- What `judge` prints for a unit file and a record.
abbrev pub judge_output : List ℕ → List ℕ → List ℕ
judge_output file text = judged_under (unit_of file) (unit_behind file).store text
