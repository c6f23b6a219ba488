-- docs/JUDGE.md: what the judge says to a line of a record, and what goes on from it.
use Rattle.std.specs.Prelude.{cond, List, [], ◌++◌, ℕ}
use Rattle.packline.specs.declared.Halt.TheVariants.{Long}
use Rattle.grouping.specs.Group.{next_number}
use Rattle.desk.specs.declared.Desk.{Desk}
use Rattle.desk.specs.Place.{Place, counted, halting, is_halted, at_desk, counting}
use Rattle.judgeline.specs.Step.{bad_says, outside_says, outside_becomes, inside_says, inside_desk}
use Rattle.concluding.specs.Closing.{closing_says, closing_desk}

unfoldable pub judge_says : Place → List ℕ → List ℕ
judge_says m line =
    cond (is_halted m.desk) []
    (cond m.desk.group.«open» (inside_says (counted m.desk) m.out line) (outside_says (counting m) line))

unfoldable pub judge_becomes : Place → List ℕ → Place
judge_becomes m line =
    cond (is_halted m.desk) m
    (cond m.desk.group.«open» (at_desk m (inside_desk (counted m.desk) m.out line)) (outside_becomes (counting m) line))

-- A line that is too long.
unfoldable pub judge_long_says : Desk → List ℕ
judge_long_says d = cond (is_halted d) [] (bad_says (next_number d.number) Long)

unfoldable pub judge_long_desk : Desk → Desk
judge_long_desk d = cond (is_halted d) d (halting (counted d) Long)

-- ---- the end of the input, which serves as an empty line

abbrev pub end_says : Place → List ℕ
end_says m = judge_says m [] ++ closing_says (judge_becomes m []).desk

abbrev pub end_becomes : Place → Place
end_becomes m = at_desk (judge_becomes m []) (closing_desk (judge_becomes m []).desk)
