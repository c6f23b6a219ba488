-- A program that answers each line by itself, and keeps nothing from line to line: its whole output, however the input is divided.
-- Assumes nothing.
use Rattle.std.specs.Prelude.{is_ok}
use mathlib.Core.Path.{◌≡◌, refl, sym, ap, ap₂, ◌∙◌}
use mathlib.Core.Bool.{true, false}
use mathlib.Core.List.{List, [], ◌∷◌, ◌++◌, map}
use Prim.Native.Nat.{ℕ, ◌≤◌, ◌<◌}
use lib.ListN.{length, replicate}
use lib.Dec.{leb}
use borrow.Author.Tests.{leb-false}
use Rattle.laws.specs.Fold.{answers, joined}
use Rattle.laws.proofs.Tests.{by-test}
use Rattle.lines.specs.Lines.{lines_of}
use Rattle.lines.specs.Turn.{Turn, last_says, turns_of}
use Rattle.lines.specs.Feed.{line_says, line_becomes, output_of}
use Rattle.packetline.specs.Packet.{line_most}
use Rattle.clauses.specs.Clauses.{clause_of}
use Rattle.hexline.specs.Whole.{answer_room}
use Rattle.frameline.specs.Line.{frame_says, frames_output}
use Rattle.frameline.proofs.Lines.{says_bad_long}
use Rattle.explainline.specs.Line.{explain_says, explain_output}
use Rattle.explainline.proofs.Lines.{explain_long}
use Rattle.tasks.specs.declared.Task.{Task}
use Rattle.tasks.specs.declared.Task.TheVariants.{Frames, Explain}
use Rattle.desk.specs.Place.{Place, desk_for, is_halted, at_desk, profile_at}
use Rattle.tasks.specs.Tasks.{task_says, task_becomes, task_long_says, task_long_desk, task_program}
use Rattle.feeding.specs.Feed.{piece_program}
use Rattle.feeding.specs.Output.{unit_of, explained_under}
use Rattle.feeding.proofs.Streaming.{stream_whole}

-- ---- any such program

module _ (t : Task) (m : Place) (says : List ℕ → List ℕ)
    (short : (line : List ℕ) → task_says t m line ≡ says line)
    (long : (line : List ℕ) → line_most < length line → task_long_says t m.desk ≡ says line)
    (stays : (line : List ℕ) → task_becomes t m line ≡ m)
    (stays-long : task_long_desk t m.desk ≡ m.desk) where
  -- A line of any length is answered as it is by itself, and leaves everything as it was.
  says_line : (line : List ℕ) → line_says (task_program t) m line ≡ says line
  says_line line =
      by-test (leb (length line) line_most) (λ h. rw h (short line)) (λ h. rw h (long line (leb-false (length line) line_most h)))

  becomes_line : (line : List ℕ) → line_becomes (task_program t) m line ≡ m
  becomes_line line = by-test (leb (length line) line_most) (λ h. rw h (stays line)) (λ h. rw h (ap (at_desk m) stays-long))

  answers_alone : (ls : List (List ℕ)) → answers (line_says (task_program t)) (line_becomes (task_program t)) m ls ≡ map says ls
  unfolding answers
  answers_alone [] = refl
  answers_alone (l ∷ ls) =
      ap₂ (λ (x : List ℕ) (xs : List (List ℕ)). x ∷ xs)
      (says_line l)
      (ap (λ (n : Place). answers (line_says (task_program t)) (line_becomes (task_program t)) n ls) (becomes_line l) ∙ answers_alone ls)

  -- The whole output: the answer to each line, one behind the other.
  pub output_alone : (input : List ℕ) → output_of (task_program t) m input ≡ joined (map says (lines_of input))
  unfolding output_of
  output_alone input = ap joined (answers_alone (lines_of input))

  -- However the input is divided, what is said is the output on the whole.
  pub stream_alone : (room n : ℕ) (parts : List (List ℕ)) → answer_room ≤ room → length (joined parts) < n
      → (let s : Turn Place = turns_of (piece_program t) room true m true [] (parts ++ replicate n []) in
      s.said ++ last_says (piece_program t) s.after s.begins s.left ≡ joined (map says (lines_of (joined parts))))
  stream_alone room n parts r h = stream_whole t room n m parts r h ∙ output_alone (joined parts)

-- ---- at any desk

-- `frames`.
pub stream_frames : (room n : ℕ) (m : Place) (parts : List (List ℕ)) → answer_room ≤ room → length (joined parts) < n
    → (let s : Turn Place = turns_of (piece_program Frames) room true m true [] (parts ++ replicate n []) in
    s.said ++ last_says (piece_program Frames) s.after s.begins s.left ≡ frames_output (joined parts))
stream_frames room n m parts r h =
    stream_alone Frames m frame_says (λ line. refl) (λ line more. sym (says_bad_long line more)) (λ line. refl) refl room n parts r h

-- `explain`, under the profile of the desk's unit.
pub stream_explain : (room n : ℕ) (m : Place) (parts : List (List ℕ)) → answer_room ≤ room → length (joined parts) < n
    → (let s : Turn Place = turns_of (piece_program Explain) room true m true [] (parts ++ replicate n []) in
    s.said ++ last_says (piece_program Explain) s.after s.begins s.left ≡ explain_output (profile_at m) (joined parts))
stream_explain room n m parts r h =
    stream_alone Explain m (explain_says (profile_at m)) (λ line. refl) (λ line more. sym (explain_long (profile_at m) line more)) (λ line. refl) refl room n parts r h

-- `explain` with a unit file: under the unit that it states, where that is sound, what is said is what is printed for the file and the packets.
pub stream_under : (file store out : List ℕ) → is_halted (unit_of file) ≡ false → is_ok (clause_of (unit_of file).draft.profile (unit_of file).draft.stored) ≡ true
    → (room n : ℕ) (parts : List (List ℕ)) → answer_room ≤ room → length (joined parts) < n
    → (let m : Place = record { desk = desk_for (unit_of file).draft; store = store; out = out } in
    let s : Turn Place = turns_of (piece_program Explain) room true m true [] (parts ++ replicate n []) in
    s.said ++ last_says (piece_program Explain) s.after s.begins s.left ≡ explained_under file (joined parts))
stream_under file store out fine sound room n parts r h =
    rw (fine, sound) (stream_explain room n (record { desk = desk_for (unit_of file).draft; store = store; out = out }) parts r h)
