-- Document 01, "Refusal numbers in checking order": the rows of each service, what it is to do, and what is decided by them.
use Rattle.std.specs.Prelude.{◌≡◌, Bool, true, false, List, [], ◌∷◌, ℕ, length, eqb, Some, None, Option}
use Rattle.octets.specs.declared.copy.Span.{Span}
use Rattle.checks.specs.declared.Check.TheVariants.{Form, Memory, Right, Outside}
use Rattle.checks.specs.declared.Refusal.{Refusal}
use Rattle.checks.specs.Table.{Row}
use Rattle.checks.specs.Verdict.{row}
use Rattle.map.specs.declared.Area.{Area}
use Rattle.map.specs.declared.Profile.{Profile}
use Rattle.blocks.specs.Blocks.{memory_id, blocks_of}
use Rattle.blocks.specs.Form.{head_right, form_of, is_right, form_detail}
use Rattle.requests.specs.declared.Action.{Action}
use Rattle.serving.specs.declared.Task.{Task}
use Rattle.serving.specs.declared.Task.TheVariants.{Idle, Memory as OnArea, Connection as Connect}
use Rattle.requests.specs.Request.{right_for, carried_by, most_words, area_named, is_found, outside_of}
use Rattle.serving.specs.Decision.{work, Decision, decided_by}

-- ---- the rows of each service, and what it is to do

-- The area has the right that an action needs; no area has none.
abbrev pub has_right : Option Area → Action → Bool
has_right (Some a) action = right_for a.rights action
has_right None action = false

-- The number of the first block outside the area named; without an area there is none to number.
abbrev pub outside_number : Option Area → Action → List ℕ → ℕ
outside_number (Some a) action d = outside_of a (blocks_of (carried_by action) d)
outside_number None action d = 0

-- Every block is wholly inside the area named; without an area none is.
abbrev pub all_inside : Option Area → Action → List ℕ → Bool
all_inside (Some a) action d = eqb (outside_of a (blocks_of (carried_by action) d)) 0
all_inside None action d = false

-- 18 and 19, of the area found.
unfoldable pub area_rows : Option Area → Action → List ℕ → List (Row Refusal)
area_rows found action d =
    row Right (memory_id d) (has_right found action)
    ∷ row Outside (outside_number found action d) (all_inside found action d)
    ∷ []

-- Service 6: 5 for the head, 5 for the blocks, 17, 18 and 19.
unfoldable pub memory_rows : Profile → Action → List ℕ → List (Row Refusal)
memory_rows p action d =
    row Form 0 (head_right d)
    ∷ row Form (form_detail (form_of (carried_by action) (most_words action) d)) (is_right (form_of (carried_by action) (most_words action) d))
    ∷ row Memory (memory_id d) (is_found (area_named p d))
    ∷ area_rows (area_named p d) action d

-- What it is to do on the area found.
abbrev pub memory_task : Option Area → Action → Task
memory_task (Some a) action = OnArea (record { action = action; area = a })
memory_task None action = Idle

-- Service 17: 5 where there is application data.
unfoldable pub connection_rows : List ℕ → List (Row Refusal)
connection_rows d = row Form 0 (eqb (length d) 0) ∷ []

-- ---- what is decided, from data that was read

abbrev pub area_decision : Area → Action → ℕ → Span → List ℕ → Decision
area_decision a action ack «data» d = decided_by (work (memory_task (Some a) action) ack «data») (area_rows (Some a) action d)

abbrev pub memory_decision : Profile → Action → ℕ → Span → List ℕ → Decision
memory_decision p action ack «data» d = decided_by (work (memory_task (area_named p d) action) ack «data») (memory_rows p action d)

abbrev pub connection_decision : ℕ → Span → List ℕ → Decision
connection_decision ack «data» d = decided_by (work Connect ack «data») (connection_rows d)

-- ---- what those who act on a decision lean on

-- Data of service 6 is well formed for an action.
abbrev pub Formed : Action → List ℕ → Type 0
Formed action d = (head_right d ≡ true) × (is_right (form_of (carried_by action) (most_words action) d) ≡ true)

-- Data is well formed for a task.
abbrev pub FormedFor : Task → List ℕ → Type 0
FormedFor Idle d = Unit
FormedFor (OnArea job) d = Formed job.action d
FormedFor Connect d = Unit
