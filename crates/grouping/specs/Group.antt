-- docs/JUDGE.md, "How to write the record": where a line of a record stands, and the frames that are due there.
use Rattle.std.specs.Prelude.{ℕ, ◌+◌, ◌%◌, ◌^◌, min, true, false, List, length, take, drop}
use Rattle.tm.specs.Frame.{frame_size}
use Rattle.grouping.specs.declared.Group.{Group}

-- The number of the next line, in 64 bits.
abbrev pub next_number : ℕ → ℕ
next_number n = (n + 1) % 2 ^ 64

-- ---- places of a record

-- Before the first packet of a record.
abbrev pub no_group : Group
no_group = record { «open» = false; some = false; from = 0; end = 0; packet = 0; packets = 0; frames = 0 }

-- Those that stand from a place on, at the front of the output buffer.
abbrev pub left_at : Group → List ℕ → List ℕ
left_at g out = drop g.from (take g.end out)

-- The first of them, of which at most 4,096 octets are looked at, and none where none is left. No answer of the terminal has more.
abbrev pub frame_room : ℕ
frame_room = 4096

abbrev pub due_at : Group → List ℕ → List ℕ
due_at g out = take frame_room (take (frame_size (left_at g out)) (left_at g out))

-- Where it ends.
abbrev pub due_end : Group → List ℕ → ℕ
due_end g out = min (g.from + frame_size (left_at g out)) (length (take g.end out))

-- Behind a packet: its frames are due, so many octets at the front of the output buffer.
abbrev pub opened : Group → ℕ → ℕ → Group
opened g number octets =
    record { «open» = true; some = true; from = 0; end = octets; packet = number; packets = next_number g.packets; frames = g.frames }

-- Behind a frame that agrees, and behind the line that ends a group.
abbrev pub compared : Group → List ℕ → Group
compared g out =
    record { «open» = true; some = g.some; from = due_end g out; end = g.end; packet = g.packet; packets = g.packets; frames = next_number g.frames }

abbrev pub closed : Group → Group
closed g = record { «open» = false; some = g.some; from = g.from; end = g.end; packet = g.packet; packets = g.packets; frames = g.frames }
