-- The programs over an input that comes in parts: their numbers fit, and however the input is divided, what is said is the output on the whole.
-- Assumes nothing.
use mathlib.Core.Path.{◌≡◌}
use mathlib.Core.Bool.{true}
use mathlib.Core.List.{List, [], ◌++◌}
use Prim.Native.Nat.{ℕ, ◌≤◌, ◌<◌}
use native.Mathlib.Omega.{arith}
use lib.ListN.{length, replicate}
use Rattle.characters.specs.Digits.{text_of}
use Rattle.laws.specs.Fold.{reached, joined}
use Rattle.lines.specs.Lines.{lines_of}
use Rattle.lines.specs.Turn.{Turn, last_says, last_becomes, turns_of}
use Rattle.lines.specs.Feed.{line_becomes, output_of}
use Rattle.lines.proofs.Turns.{Fits}
use Rattle.lines.proofs.Whole.{LineFits, pieces_fit, stream_lines, stream_reached}
use Rattle.hexline.specs.Whole.{answer_room}
use Rattle.hexline.proofs.Serving.{line_answer_most}
use Rattle.tasks.specs.declared.Task.{Task}
use Rattle.tasks.specs.declared.Task.TheVariants.{Line, Unit, Pack, Judge, Frames, Explain}
use Rattle.desk.specs.declared.Desk.{Desk}
use Rattle.desk.specs.Place.{Place, profile_at, station_at}
use Rattle.tasks.specs.Tasks.{task_says, task_long_says, task_program}
use Rattle.packstep.proofs.Packing.{pack_most, long_most}
use Rattle.judgestep.proofs.Lengths.{judge_most, judge_long_most}
use Rattle.frameline.proofs.Lines.{says_most}
use Rattle.explainline.proofs.Lines.{explain_most}
use Rattle.feeding.specs.Feed.{piece_program}
use Rattle.feeding.specs.Output.{unit_first, unit_behind}

-- No answer has more than 16,384 characters.
answer_most : (t : Task) (m : Place) (line : List ℕ) → length (task_says t m line) ≤ answer_room
answer_most Line m line = line_answer_most (profile_at m) (station_at m) line
answer_most Unit m line = omega arith
answer_most Pack m line = pack_most m line
answer_most Judge m line = judge_most m line
answer_most Frames m line = says_most line
answer_most Explain m line = explain_most (profile_at m) line

answer_long_most : (t : Task) (d : Desk) → length (task_long_says t d) ≤ answer_room
unfolding text_of
answer_long_most Line d = omega arith
answer_long_most Unit d = omega arith
answer_long_most Pack d = long_most d
answer_long_most Judge d = judge_long_most d
answer_long_most Frames d = omega arith
answer_long_most Explain d = omega arith

module _ (t : Task) where
  task_fits : LineFits (task_program t)
  task_fits = record { positive = omega arith; line_most_lem = λ m line h. answer_most t m line; long_most = λ m. answer_long_most t m.desk }

  pub pieces_task : Fits (piece_program t)
  pieces_task = pieces_fit (task_program t) task_fits

  -- However an input is divided: what is said of its parts in turn, and then in turns without more input until no whole piece is left, and then of the last piece, is the output on the whole.
  pub stream_whole : (room n : ℕ) (m : Place) (parts : List (List ℕ)) → answer_room ≤ room → length (joined parts) < n
      → (let s : Turn Place = turns_of (piece_program t) room true m true [] (parts ++ replicate n []) in
      s.said ++ last_says (piece_program t) s.after s.begins s.left ≡ output_of (task_program t) m (joined parts))
  stream_whole room n m parts r h = stream_lines (task_program t) task_fits room n m parts r h

  -- And where it is behind those parts, it is behind the whole.
  pub stream_behind : (room n : ℕ) (m : Place) (parts : List (List ℕ)) → answer_room ≤ room → length (joined parts) < n
      → (let s : Turn Place = turns_of (piece_program t) room true m true [] (parts ++ replicate n []) in
      last_becomes (piece_program t) s.after s.begins s.left ≡ reached (line_becomes (task_program t)) m (lines_of (joined parts)))
  stream_behind room n m parts r h = stream_reached (task_program t) task_fits room n m parts r h

-- However a unit file is divided, the reader of unit files is behind its parts where it is behind the whole.
pub stream_unit : (room n : ℕ) (parts : List (List ℕ)) → answer_room ≤ room → length (joined parts) < n
    → (let s : Turn Place = turns_of (piece_program Unit) room true unit_first true [] (parts ++ replicate n []) in
    last_becomes (piece_program Unit) s.after s.begins s.left ≡ unit_behind (joined parts))
unfolding unit_behind
stream_unit room n parts r h = stream_behind Unit room n unit_first parts r h
