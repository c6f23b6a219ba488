-- Document 01, "Refusal numbers in checking order": the number of each check, and the number and the detail of a verdict.
use Rattle.std.specs.Prelude.{Bool, true, false, List, ℕ, is_ok, leb, Result, Ok, Err}
use Rattle.checks.specs.declared.Check.{Check}
use Rattle.checks.specs.declared.Check.TheVariants.{Buffer, Caller, Short, Length, Control, Header, Apid, Service, Subtype, Form, Memory, Right, Outside}
use Rattle.checks.specs.declared.Refusal.{Refusal}
use Rattle.checks.specs.Table.{Row, answer}

-- The number of each check, as the table has it.
abbrev pub check_number : Check → ℕ
check_number Buffer = 40
check_number Caller = 41
check_number Short = 42
check_number Length = 1
check_number Control = 2
check_number Header = 16
check_number Apid = 0
check_number Service = 3
check_number Subtype = 4
check_number Form = 5
check_number Memory = 17
check_number Right = 18
check_number Outside = 19

-- A check that failed, with its detail.
abbrev pub refusal : Check → ℕ → Refusal
refusal check detail = record { check = check; detail = detail }

-- What a packet is answered: acceptance, or the refusal of the first check that fails.
abbrev pub Verdict : Type 0
Verdict = Result Unit Refusal

-- Acceptance is marked apart from number 0.
abbrev pub is_accepted : Verdict → Bool
is_accepted v = is_ok v

-- The number of a refusal; 0 also stands for acceptance, which has none.
abbrev pub number_of : Verdict → ℕ
number_of (Ok _) = 0
number_of (Err r) = check_number r.check

-- The detail of a refusal, 0 for none.
abbrev pub detail_of : Verdict → ℕ
detail_of (Ok _) = 0
detail_of (Err r) = r.detail

-- 40, 41 and 42 give no frame: the numbers from 40 on.
abbrev pub silent : Verdict → Bool
silent v = leb 40 (number_of v)

-- A row of the table: the check, its detail where it fails, and whether it holds.
abbrev pub row : Check → ℕ → Bool → Row Refusal
row check detail holds = record { refusal = refusal check detail; holds = holds }

-- The verdict of some rows: the refusal of the first that does not hold, or acceptance.
abbrev pub verdict_by : List (Row Refusal) → Verdict
verdict_by rows = answer (Ok tt) Err rows
