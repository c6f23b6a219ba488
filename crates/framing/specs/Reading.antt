-- Document 02, wish 1: what each frame due tells, by the rules of document 01, and that it reads back as its own stamp and contents.
use Rattle.std.specs.Prelude.{Bool, cond, List, [], ◌∷◌, ◌++◌, map, ℕ}
use Rattle.octets.specs.Numbers.{word16}
use Rattle.checks.specs.Verdict.{Verdict}
use Rattle.checks.specs.Verdict.{is_accepted, number_of, detail_of, silent}
use Rattle.crc.specs.Register.{crc_of}
use Rattle.tc.specs.Layout.{fields_of, application_of}
use Rattle.counts.specs.declared.Counts.{Counts}
use Rattle.counts.specs.Counts.{count_for, counted}
use Rattle.tm.specs.Frame.{time_of}
use Rattle.map.specs.declared.Area.{Area}
use Rattle.blocks.specs.declared.Block.{Block}
use Rattle.blocks.specs.Blocks.{memory_id, blocks_of}
use Rattle.requests.specs.declared.Action.{Action}
use Rattle.requests.specs.declared.Action.TheVariants.{Load, Dump, Check}
use Rattle.requests.specs.Request.{carried_by}
use Rattle.contents.specs.declared.Entry.{Entry}
use Rattle.contents.specs.Kinds.{type_of}
use Rattle.contents.specs.Told.{Told, acceptance, refusal, completion, dump, check, connection, kind_told}
use Rattle.tmreader.specs.Telling.{stamp_for, FrameReader, ReadsAs}
use Rattle.memory.specs.Memory.{stored_of}
use Rattle.laying.specs.Reports.{asks_acceptance, asks_completion}
use Rattle.serving.specs.declared.Task.{Task}
use Rattle.serving.specs.declared.Task.TheVariants.{Idle, Memory, Connection}
use Rattle.decide.specs.Table.{task_of}
use Rattle.terminal.specs.Outcome.{Input, verdict_on}

-- A block dumped: where it starts, how many words it has, and those that stand there.
abbrev pub dump_told : Area → ℕ → List ℕ → Block → Told
dump_told a memory store b = dump memory b.start b.words (stored_of a store b)

-- A block checked: where it starts, how many words it has, and their CRC.
abbrev pub entry_told : Area → List ℕ → Block → Entry
entry_told a store b = record { start = b.start; length = b.words; crc = crc_of (stored_of a store b) }

-- What service 6 tells: of a load nothing, of a dump each block, of a check all of them at once.
abbrev pub memory_told : Area → Action → List ℕ → List ℕ → List Told
memory_told a Load d store = []
memory_told a Dump d store = map (dump_told a (memory_id d) store) (blocks_of (carried_by Dump) d)
memory_told a Check d store = check (memory_id d) (map (entry_told a store) (blocks_of (carried_by Check) d)) ∷ []

-- What a task tells.
abbrev pub done_told : Task → List ℕ → List ℕ → List Told
done_told Idle d store = []
done_told (Memory job) d store = memory_told job.area job.action d store
done_told Connection d store = connection ∷ []

-- What is told if it is asked for.
abbrev pub asked_told : Bool → Told → List Told
asked_told asks t = cond asks (t ∷ []) []

-- A packet's ID and sequence control, told at acceptance, at completion, and with the code and the detail of a refusal.
abbrev pub acceptance_told : List ℕ → Told
acceptance_told packet = acceptance (word16 packet 0) (word16 packet 2)

abbrev pub completion_told : List ℕ → Told
completion_told packet = completion (word16 packet 0) (word16 packet 2)

abbrev pub refusal_told : Verdict → List ℕ → Told
refusal_told v packet = refusal (word16 packet 0) (word16 packet 2) (number_of v) (detail_of v)

-- What an accepted packet is told: its acceptance if asked, what its task tells, its completion if asked.
unfoldable pub accepted_told : Input → List Told
accepted_told i =
    asked_told (asks_acceptance (fields_of i.packet).ack) (acceptance_told i.packet)
    ++ (done_told (task_of i.profile i.packet) (application_of i.packet) i.store
    ++ asked_told (asks_completion (fields_of i.packet).ack) (completion_told i.packet))

-- What any packet is told: a refused one its refusal, where that gives a frame.
unfoldable pub told_on : Input → List Told
told_on i =
    cond (is_accepted (verdict_on i)) (accepted_told i)
    (cond (silent (verdict_on i)) [] (refusal_told (verdict_on i) i.packet ∷ []))

-- Frames read back, one after another: each as the stamp with its own count, and as what is told there.
unfoldable pub ReadBack : FrameReader → ℕ → List ℕ → Counts → List Told → List (List ℕ) → Type 0
ReadBack read pid time c [] [] = Unit
ReadBack read pid time c [] (f ∷ fs) = ⊥
ReadBack read pid time c (t ∷ ts) [] = ⊥
ReadBack read pid time c (t ∷ ts) (f ∷ fs) =
    ReadsAs read (stamp_for pid (count_for c (type_of (kind_told t))) time t) t f × ReadBack read pid time (counted c (type_of (kind_told t))) ts fs

-- Some frames read back as what is due on an input.
abbrev pub DueRead : FrameReader → Input → List (List ℕ) → Type 0
DueRead read i frames = ReadBack read i.profile.pid (time_of i.time) i.state.counts (told_on i) frames
