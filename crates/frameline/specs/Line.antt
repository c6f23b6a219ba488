-- docs/FRAMES.md: what `frames` prints for a line, and for an input.
use Rattle.std.specs.Prelude.{cond, List, map, ℕ}
use Rattle.laws.specs.Fold.{joined}
use Rattle.characters.specs.Digits.{octets_in}
use Rattle.lines.specs.Lines.{lines_of}
use Rattle.packetline.specs.Packet.{is_packet}
use Rattle.frametext.specs.Text.{frame_text, bad_text}

-- A line of a frame in hexadecimal is told what the frame says; `bad line` is one that the line program answers with 0200.
unfoldable pub frame_says : List ℕ → List ℕ
frame_says line = cond (is_packet line) (frame_text (octets_in line)) bad_text

-- The whole output: an answer for each line, and nothing goes from line to line.
abbrev pub frames_output : List ℕ → List ℕ
frames_output input = joined (map frame_says (lines_of input))
