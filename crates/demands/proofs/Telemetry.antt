-- The reader of frames, and the terminal's frames before it, meet the second demand.
-- Assumes nothing.
use Rattle.std.specs.Prelude.{Ok, Err}
use mathlib.Core.Path.{◌≡◌, refl, sym, ap, subst, ◌∙◌}
use mathlib.Core.Bool.{false, false≢true}
use mathlib.Core.Logic.{⊎_elim}
use mathlib.Core.List.{List}
use lib.ListN.{length, take}
use Rattle.checks.specs.Table.{Row, First, AllHold, answer}
use Rattle.checks.proofs.Table.{first_gives, all_give, answer-from}
use Rattle.tm.specs.Frame.{cut}
use Rattle.tmreader.specs.declared.Flaw.{Flaw}
use Rattle.tmreader.specs.Reader.{Verdict, is_clean, number_of, frame_rows, judged, reading_of}
use Rattle.tmreader.proofs.RoundTrip.{clean_frame}
use Rattle.terminal.specs.Outcome.{frames_due, octets_due, outcome_of, out_after}
use Rattle.terminal.proofs.Due.{front_due, due-cut}
use Rattle.framing.specs.Reading.{DueRead}
use Rattle.framing.proofs.Reading.{due_read}
use Rattle.demands.specs.Terminal.{reference}
use Rattle.demands.specs.Telemetry.{DecidesFrame, FrameOrder, ReadsFrames, FramesReadBack}
use Rattle.demands.proofs.Demand1.{none-placed}

module _ (table : List (Row Flaw)) where
  -- What the rows answer.
  abbrev answered : Verdict
  answered = answer (Ok tt) Err table

  first_refuses : (r : Row Flaw) → First table r → answered ≡ Err r.refusal
  first_refuses r h = first_gives (Ok tt) Err table r h

  -- A refused frame has a first check that fails.
  refused-first : is_clean answered ≡ false → (r : Row Flaw) × First table r
  refused-first h =
      ⊎_elim (λ (all : AllHold table). absurd (false≢true (sym h ∙ ap is_clean (all_give (Ok tt) Err table all)))) (λ f. f) (answer-from table)

  frame_decides : DecidesFrame table answered
  frame_decides = record {
    refuses = first_refuses;
    passes = all_give (Ok tt) Err table;
    when = λ n f. let e = first_refuses f.0 f.1 in (ap is_clean e, ap number_of e ∙ f.2);
    only = λ n g. let f = refused-first g.0 in (f.0, f.1, sym (ap number_of (first_refuses f.0 f.1)) ∙ g.1);
  }

-- The table has the numbers of wish 1: a reader with 62 before 61 is ruled out.
pub frame_order : FrameOrder
unfolding frame_rows
frame_order f = refl

-- The reader of frames reads as the demand has it. Ruled out: one that passes over the category of service 1, one that reads a (6,6) with a word too many, one that hands back a refused frame's PID, one that gives the time of another octet.
pub reader_reads : ReadsFrames reading_of
unfolding reading_of judged
reader_reads = record {
  decides = λ f. frame_decides (frame_rows f);
  no_stamp_lem = λ f h. rw h;
  no_source = λ f h. rw h (none-placed f);
  no_contents = λ f h. rw h;
  frames = clean_frame;
}

-- What the terminal writes reads back. Ruled out: a terminal that writes nothing or one fixed report, one whose (6,10) leaves out a block, one that stamps (17,2) with category 1 or counts twice; and a reader that refuses everything.
pub terminal_reads_back : FramesReadBack reference reading_of
unfolding outcome_of
terminal_reads_back i h =
    let same : cut (take (length (octets_due i)) (out_after i)) ≡ frames_due i = ap cut (front_due i) ∙ due-cut i in
    subst (DueRead reading_of i) (sym same) (due_read i h)
