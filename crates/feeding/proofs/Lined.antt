-- The line program at a desk is the line program of document 01: its output on the whole is that of `line_program`.
-- Assumes nothing.
use mathlib.Core.Path.{◌≡◌, refl, ap, ap₂, ◌∙◌}
use mathlib.Core.Bool.{true}
use mathlib.Core.List.{List, [], ◌∷◌, ◌++◌}
use Prim.Native.Nat.{ℕ, ◌≤◌, ◌<◌}
use lib.ListN.{length, replicate}
use lib.Dec.{leb}
use Rattle.laws.specs.Fold.{answers, joined}
use Rattle.laws.proofs.Tests.{by-test}
use Rattle.map.specs.declared.Profile.{Profile}
use Rattle.lines.specs.Lines.{lines_of}
use Rattle.lines.specs.Turn.{Turn, last_says, turns_of}
use Rattle.lines.specs.Feed.{line_says, line_becomes, output_of}
use Rattle.packetline.specs.Packet.{line_most}
use Rattle.hexline.specs.Line.{Station}
use Rattle.hexline.specs.Whole.{answer_room, line_program}
use Rattle.tasks.specs.declared.Task.TheVariants.{Line}
use Rattle.desk.specs.Place.{Place, profile_at, station_at}
use Rattle.tasks.specs.Tasks.{task_program}
use Rattle.feeding.specs.Feed.{piece_program}
use Rattle.feeding.proofs.Streaming.{stream_whole}

-- A line leaves the profile, and of the rest what the line program leaves.
becomes_profile : (m : Place) (line : List ℕ) → profile_at (line_becomes (task_program Line) m line) ≡ profile_at m
becomes_profile m line = by-test (leb (length line) line_most) (λ t. rw t refl) (λ e. rw e refl)

becomes_station : (m : Place) (line : List ℕ) → station_at (line_becomes (task_program Line) m line) ≡ line_becomes (line_program (profile_at m)) (station_at m) line
becomes_station m line = by-test (leb (length line) line_most) (λ t. rw t refl) (λ e. rw e refl)

says_same : (m : Place) (line : List ℕ) → line_says (task_program Line) m line ≡ line_says (line_program (profile_at m)) (station_at m) line
says_same m line = by-test (leb (length line) line_most) (λ t. rw t refl) (λ e. rw e refl)

answers_same : (p : Profile) (s : Station) (m : Place) (ls : List (List ℕ)) → profile_at m ≡ p → station_at m ≡ s
    → answers (line_says (task_program Line)) (line_becomes (task_program Line)) m ls ≡ answers (line_says (line_program p)) (line_becomes (line_program p)) s ls
unfolding answers
answers_same p s m [] e f = refl
answers_same p s m (l ∷ ls) e f =
    ap₂ (λ (x : List ℕ) (xs : List (List ℕ)). x ∷ xs)
    (says_same m l ∙ ap₂ (λ (q : Profile) (t : Station). line_says (line_program q) t l) e f)
    (answers_same p (line_becomes (line_program p) s l) (line_becomes (task_program Line) m l) ls (becomes_profile m l ∙ e)
    (becomes_station m l ∙ ap₂ (λ (q : Profile) (t : Station). line_becomes (line_program q) t l) e f))

-- The whole output of the line program, at any desk.
pub line_output : (m : Place) (input : List ℕ) → output_of (task_program Line) m input ≡ output_of (line_program (profile_at m)) (station_at m) input
unfolding output_of
line_output m input = ap joined (answers_same (profile_at m) (station_at m) m (lines_of input) refl refl)

-- However the input of the line program is divided, what is said is document 01's output on the whole.
pub stream_line : (room n : ℕ) (m : Place) (parts : List (List ℕ)) → answer_room ≤ room → length (joined parts) < n
    → (let s : Turn Place = turns_of (piece_program Line) room true m true [] (parts ++ replicate n []) in
    s.said ++ last_says (piece_program Line) s.after s.begins s.left ≡ output_of (line_program (profile_at m)) (station_at m) (joined parts))
stream_line room n m parts r h = stream_whole Line room n m parts r h ∙ line_output m (joined parts)
