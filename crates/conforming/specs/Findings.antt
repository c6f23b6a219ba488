-- Document 02, wish 7: each line of a record beside what is due there.
use Rattle.std.specs.Prelude.{cond, List, [], ◌∷◌, ◌++◌, ℕ, ◌+◌, length}
use Rattle.characters.specs.Digits.{octets_in}
use Rattle.packetline.specs.Packet.{is_packet}
use Rattle.map.specs.declared.Profile.{Profile}
use Rattle.hexline.specs.Line.{Station}
use Rattle.beside.specs.Beside.{agrees}
use Rattle.conforming.specs.Groups.{Line, Group, groups_of}
use Rattle.conforming.specs.Conforms.{frames_for, after_tc}

-- What a line of a record is found to be: an empty line in its place; a TC; a TM line that gives the frame due; no packet line; or, beside the frames still due in the group of the TC at a line, one that differs.
pub data Finding : Type 0 where
  blank : Finding
  packet : Finding
  frame : Finding
  bad : (line : Line) → Finding
  differs : (tc : ℕ) (due : List ℕ) (line : Line) → Finding

-- The first of the frames still due, and none; and those behind it.
abbrev pub first_of : List (List ℕ) → List ℕ
first_of [] = []
first_of (f ∷ frames) = f

abbrev pub rest_of : List (List ℕ) → List (List ℕ)
rest_of [] = []
rest_of (f ∷ frames) = frames

-- A line that agrees with what is due: an empty one ends the group.
abbrev pub agreeing : Line → Finding
agreeing [] = blank
agreeing (c ∷ line) = frame

-- A line beside the frames still due in the group of the TC at a line: no digits beside no frame agree, and of an empty line and a frame neither gives the other.
unfoldable pub finding_of : ℕ → List (List ℕ) → Line → Finding
finding_of tc due line =
    cond (is_packet line) (cond (agrees (first_of due) (octets_in line)) (agreeing line) (differs tc (first_of due) line)) (bad line)

-- The TM lines of a group, the k-th beside the k-th frame due, and the empty line that ends it beside the frames that are left.
unfoldable pub beside_all : ℕ → List (List ℕ) → List Line → List Finding
beside_all tc due [] = finding_of tc due [] ∷ []
beside_all tc due (line ∷ lines) = finding_of tc due line ∷ beside_all tc (rest_of due) lines

-- A TC.
abbrev pub finding_tc : Line → Finding
finding_tc tc = cond (is_packet tc) packet (bad tc)

-- The lines of some groups, from the number of the first on, each with the empty line that ends its group.
unfoldable pub findings_from : Profile → Station → ℕ → List Group → List Finding
findings_from p m n [] = []
findings_from p m n ([] ∷ rest) = blank ∷ findings_from p m (n + 1) rest
findings_from p m n ((tc ∷ tms) ∷ rest) =
    finding_tc tc ∷ (beside_all n (frames_for p m tc) tms ++ findings_from p (after_tc p m tc) (n + length tms + 2) rest)

-- The lines of a record, numbered from 1, and the end of the input as one more.
abbrev pub findings_of : Profile → Station → List Line → List Finding
findings_of p m lines = findings_from p m 1 (groups_of lines)
