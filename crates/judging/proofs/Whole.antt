-- What the judge says of a whole record is the verdict on it, and however the record is divided, so is what is said of its parts.
-- Assumes nothing.
use mathlib.Core.Path.{◌≡◌, refl, sym, ap, ap₂, ◌∙◌}
use mathlib.Core.Bool.{true}
use mathlib.Core.List.{List, [], ◌∷◌, ◌++◌, append_assoc, append-nil}
use Prim.Native.Nat.{ℕ, ◌+◌, ◌≤◌, ◌<◌}
use lib.ListN.{length, replicate}
use Rattle.laws.specs.Fold.{answers, reached, joined}
use Rattle.laws.proofs.Tests.{by-test}
use Rattle.characters.specs.Digits.{octets_in}
use Rattle.lines.specs.Lines.{lines_of}
use Rattle.lines.specs.Turn.{Turn, last_says, last_becomes, turns_of}
use Rattle.lines.specs.Feed.{output_of}
use Rattle.packetline.specs.Packet.{is_packet}
use Rattle.map.specs.declared.Profile.{Profile}
use Rattle.hexline.specs.Line.{Station}
use Rattle.hexline.specs.Whole.{answer_room}
use Rattle.beside.specs.Beside.{agrees}
use Rattle.conforming.specs.Groups.{Line}
use Rattle.conforming.specs.Conforms.{frames_for, after_tc}
use Rattle.conforming.specs.Findings.{first_of, rest_of}
use Rattle.conforming.specs.Verdict.{Verdict, Differs, Refused70, concluded, verdict_of}
use Rattle.conforming.proofs.Giving.{empty_packet}
use Rattle.conforming.proofs.LineByLine as reading
use Rattle.desk.specs.declared.Desk.{Desk}
use Rattle.desk.specs.Place.{Place, profile_at, station_at, is_halted, desk_for}
use Rattle.concluding.specs.Closing.{closing_says}
use Rattle.judgestep.specs.Step.{end_says}
use Rattle.concluding.proofs.Closing.{closing_halted}
use Rattle.tasks.specs.declared.Task.TheVariants.{Judge}
use Rattle.feeding.specs.Feed.{piece_program}
use Rattle.feeding.proofs.Streaming.{stream_whole, stream_behind}
use Rattle.judging.specs.Output.{verdict_text, judged_by}
use Rattle.judging.proofs.Steps.{says, becomes, Outside, Inside, Stopped, still, outside_blank, outside_refused, outside_served, outside_closing, inside-refused, inside_parted, inside-ended, inside_given}

-- What is said of some lines and at the end behind them.
abbrev judged : Place → List Line → List ℕ
judged m lines = joined (answers says becomes m lines) ++ end_says (reached becomes m lines)

judged_next : (m : Place) (l : Line) (ls : List Line) → judged m (l ∷ ls) ≡ says m l ++ judged (becomes m l) ls
unfolding answers reached joined
judged_next m l ls = append_assoc (says m l) (joined (answers says becomes (becomes m l) ls)) (end_says (reached becomes (becomes m l) ls))

-- At the end an empty line is said, and then the last verdict.
judged_end : (m : Place) → judged m [] ≡ says m [] ++ closing_says (becomes m []).desk
unfolding answers reached joined
judged_end m = refl

-- A judge that has stopped says nothing more.
silent : (m : Place) (lines : List Line) → is_halted m.desk ≡ true → judged m lines ≡ []
silent m [] h =
    let s = still m [] h in
    judged_end m ∙ ap₂ (λ (a b : List ℕ). a ++ b) s.0 (ap (λ (x : Place). closing_says x.desk) s.1 ∙ sym (closing_halted m.desk h).0)
silent m (l ∷ ls) h =
    let s = still m l h in
    judged_next m l ls ∙ ap₂ (λ (a b : List ℕ). a ++ b) s.0 (ap (λ (x : Place). judged x ls) s.1 ∙ silent m ls h)

-- Where nothing is said to a line, the rest is said behind it; where the judge stops at it, nothing else.
passed_over : (m : Place) (l : Line) (ls : List Line) (v : Verdict) → says m l ≡ [] → judged (becomes m l) ls ≡ verdict_text v → judged m (l ∷ ls) ≡ verdict_text v
passed_over m l ls v e f = judged_next m l ls ∙ ap₂ (λ (a b : List ℕ). a ++ b) e f

stops : (m : Place) (l : Line) (ls : List Line) (v : Verdict) → Stopped m l (verdict_text v) → judged m (l ∷ ls) ≡ verdict_text v
stops m l ls v s =
    judged_next m l ls ∙ ap₂ (λ (a b : List ℕ). a ++ b) s.said_is (silent (becomes m l) ls s.halted) ∙ append-nil (verdict_text v)

ends : (m : Place) (v : Verdict) → says m [] ≡ [] → closing_says (becomes m []).desk ≡ verdict_text v → judged m [] ≡ verdict_text v
ends m v e f = judged_end m ∙ ap₂ (λ (a b : List ℕ). a ++ b) e f

stops_at_end : (m : Place) (v : Verdict) → Stopped m [] (verdict_text v) → judged m [] ≡ verdict_text v
stops_at_end m v s =
    judged_end m ∙ ap₂ (λ (a b : List ℕ). a ++ b) s.said_is (sym (closing_halted (becomes m []).desk s.halted).0) ∙ append-nil (verdict_text v)

-- What is said from outside of a group on, and from inside of one.
abbrev SaidOutside : List Line → Type 0
SaidOutside lines = (p : Profile) (s : Station) (m : Place) (k packets frames : ℕ) → Outside p s m k packets frames
    → judged m lines ≡ verdict_text (reading.verdict_outside p s k packets frames lines)

abbrev SaidInside : List Line → Type 0
SaidInside lines = (p : Profile) (s : Station) (m : Place) (k packets frames tc : ℕ) (due : List (List ℕ)) → Inside p s m k packets frames tc due
    → judged m lines ≡ verdict_text (reading.verdict_inside p s k packets frames tc due lines)

as_verdict : {said : List ℕ} {v w : Verdict} → w ≡ v → said ≡ verdict_text v → said ≡ verdict_text w
as_verdict e f = f ∙ ap verdict_text (sym e)

outside_none : SaidOutside []
outside_none p s m k packets frames o =
    let b = outside_blank p s m k packets frames o in
    as_verdict (reading.outside_end p s k packets frames)
    (ends m (concluded packets frames) b.0 (outside_closing p s (becomes m []) (k + 1) packets frames b.1))

inside-none : SaidInside []
inside-none p s m k packets frames tc due o =
    by-test (agrees (first_of due) (octets_in []))
    (λ a.
    let b = inside-ended p s m k packets frames tc due o a in
    as_verdict (reading.inside_end p s k packets frames tc due a)
    (ends m (concluded packets frames) b.0 (outside_closing p s (becomes m []) (k + 1) packets frames b.1)))
    (λ a. as_verdict (reading.inside-missing p s k packets frames tc due a)
    (stops_at_end m (Differs (k + 1) tc (first_of due) []) (inside_parted p s m k packets frames tc due o [] empty_packet a)))

outside_more : (l : Line) (ls : List Line) → SaidOutside ls → SaidInside ls → SaidOutside (l ∷ ls)
outside_more [] ls outer inner p s m k packets frames o =
    let b = outside_blank p s m k packets frames o in
    as_verdict (reading.outside_blank p s k packets frames ls) (passed_over m [] ls _ b.0 (outer p s (becomes m []) (k + 1) packets frames b.1))
outside_more (c ∷ l) ls outer inner p s m k packets frames o =
    by-test (is_packet (c ∷ l))
    (λ t.
    let b = outside_served p s m k packets frames o c l t in
    as_verdict (reading.outside_packet p s k packets frames c l ls t)
    (passed_over m (c ∷ l) ls _ b.0 (inner p (after_tc p s (c ∷ l)) (becomes m (c ∷ l)) (k + 1) (packets + 1) frames (k + 1) (frames_for p s (c ∷ l)) b.1)))
    (λ t. as_verdict (reading.outside_bad p s k packets frames c l ls t) (stops m (c ∷ l) ls (Refused70 (k + 1) (c ∷ l)) (outside_refused p s m k packets frames o c l t)))

inside_more : (l : Line) (ls : List Line) → SaidOutside ls → SaidInside ls → SaidInside (l ∷ ls)
inside_more l ls outer inner p s m k packets frames tc due o =
    by-test (is_packet l)
    (λ t. by-test (agrees (first_of due) (octets_in l))
    (λ a. agreed l t a)
    (λ a. as_verdict (reading.inside_differs p s k packets frames tc due l ls t a)
    (stops m l ls (Differs (k + 1) tc (first_of due) l) (inside_parted p s m k packets frames tc due o l t a))))
    (λ t. as_verdict (reading.inside_bad p s k packets frames tc due l ls t) (stops m l ls (Refused70 (k + 1) l) (inside-refused p s m k packets frames tc due o l t)))
  where
    agreed : (x : Line) → is_packet x ≡ true → agrees (first_of due) (octets_in x) ≡ true → judged m (x ∷ ls) ≡ verdict_text (reading.verdict_inside p s k packets frames tc due (x ∷ ls))
    agreed [] t a =
        let b = inside-ended p s m k packets frames tc due o a in
        as_verdict (reading.inside-blank p s k packets frames tc due ls a) (passed_over m [] ls _ b.0 (outer p s (becomes m []) (k + 1) packets frames b.1))
    agreed (c ∷ x) t a =
        let b = inside_given p s m k packets frames tc due o c x t a in
        as_verdict (reading.inside_frame p s k packets frames tc due c x ls t a)
        (passed_over m (c ∷ x) ls _ b.0 (inner p s (becomes m (c ∷ x)) (k + 1) packets (frames + 1) tc (rest_of due) b.1))

said : (lines : List Line) → SaidOutside lines × SaidInside lines
said [] = (outside_none, inside-none)
said (l ∷ ls) = let more = said ls in (outside_more l ls more.0 more.1, inside_more l ls more.0 more.1)

-- Before the first line of a record.
abbrev pub Begins : Place → Type 0
Begins m = m.desk ≡ desk_for m.desk.draft

begun : (m : Place) → Begins m → Outside (profile_at m) (station_at m) m 0 0 0
begun m e = record {
  profile_is = refl;
  station_is = refl;
  going = ap is_halted e;
  shut = ap (λ (d : Desk). d.group.«open») e;
  number_is = ap (λ (d : Desk). d.number) e;
  some_is = ap (λ (d : Desk). d.group.some) e;
  packets_is = ap (λ (d : Desk). d.group.packets) e;
  frames_is = ap (λ (d : Desk). d.group.frames) e;
}

-- What the judge says of a whole record is the text of the verdict on its lines.
pub judge_verdict : (m : Place) (text : List ℕ) → Begins m → judged_by m text ≡ verdict_text (verdict_of (profile_at m) (station_at m) (lines_of text))
unfolding judged_by output_of
judge_verdict m text e = (said (lines_of text)).0 (profile_at m) (station_at m) m 0 0 0 (begun m e) ∙ ap verdict_text (reading.whole (profile_at m) (station_at m) (lines_of text))

-- However a record is divided: what is said of its parts in turn, then in turns without more input until no whole piece is left, then of the last piece and at the end, is the text of the verdict on the lines of the whole.
pub stream_judge : (room n : ℕ) (m : Place) (parts : List (List ℕ)) → Begins m → answer_room ≤ room → length (joined parts) < n
    → (let s : Turn Place = turns_of (piece_program Judge) room true m true [] (parts ++ replicate n []) in
    (s.said ++ last_says (piece_program Judge) s.after s.begins s.left) ++ end_says (last_becomes (piece_program Judge) s.after s.begins s.left)
    ≡ verdict_text (verdict_of (profile_at m) (station_at m) (lines_of (joined parts))))
unfolding judged_by
stream_judge room n m parts e r h =
    ap₂ (λ (said : List ℕ) (behind : Place). said ++ end_says behind) (stream_whole Judge room n m parts r h) (stream_behind Judge room n m parts r h)
    ∙ judge_verdict m (joined parts) e
