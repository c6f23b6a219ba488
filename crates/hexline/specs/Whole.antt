-- Document 01, "The line program": the program over lines, and what goes from line to line at the start.
use Rattle.std.specs.Prelude.{ℕ}
use Rattle.map.specs.declared.Profile.{Profile}
use Rattle.lines.specs.Turn.{Program}
use Rattle.lines.specs.Feed.{LineProgram, over_pieces}
use Rattle.packetline.specs.Packet.{line_most, closing}
use Rattle.hexline.specs.Line.{Station, line_answer, line_after}
use Rattle.lineunit.specs.Unit.{line_state, line_store, line_out}

-- The most characters of an answer.
abbrev pub answer_room : ℕ
answer_room = 16384

-- The line program: a line of more than 4,096 characters is answered 0200 and changes nothing; no answer has more than 16,384.
abbrev pub line_program : Profile → LineProgram Station
line_program p = record {
  bound = line_most;
  most = answer_room;
  says = line_answer p;
  becomes = line_after p;
  says_long = λ m. closing 2 0;
  becomes_long = λ m. m;
}

-- The same over the pieces of lines.
abbrev pub piece_program : Profile → Program Station
piece_program p = over_pieces (line_program p)

-- Before the first line: counts of 0, a store of 128 zero octets, and a buffer of 4,096 zero octets for the frames.
abbrev pub first : Station
first = record { machine = record { state = line_state; store = line_store }; out = line_out }
