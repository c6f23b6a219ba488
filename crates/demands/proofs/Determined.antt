-- Document 01, "What each contract has to say": any two outcomes that a contract permits are equal. Every public contract is an equation to a definition, or a record of equations, so one law serves them all; the functions whose outcome has several parts are written out below.
-- Assumes nothing.
use mathlib.Core.Path.{◌≡◌, sym, ◌∙◌}
use mathlib.Core.List.{List}
use Prim.Native.Nat.{ℕ}
use Rattle.reader.specs.declared.Reading.{Reading}
use Rattle.writer.specs.declared.Order.{Order}
use Rattle.writer.specs.Writer.{Written}
use Rattle.octets.specs.declared.copy.Span.{Span}
use Rattle.octets.specs.Copy.{Hands}
use Rattle.reader.specs.Reader.{Reads}
use Rattle.tmreader.specs.declared.Reading.{Reading as FrameReading}
use Rattle.tmreader.specs.Reader.{Reads as FrameReads}
use Rattle.writer.specs.Writer.{Writes}
use Rattle.terminal.specs.declared.Outcome.{Outcome}
use Rattle.terminal.specs.Outcome.{Input, Answered}
use Rattle.lines.specs.declared.Progress.{Progress}
use Rattle.lines.specs.Turn.{Turn}
use Rattle.lines.specs.Feed.{Feeds}
use Rattle.hexline.specs.declared.Written.{Written as LineWritten}
use Rattle.hexline.specs.Line.{Station}
use Rattle.hexline.specs.Said.{Said}

-- Two outcomes that both equal what the definition gives are equal.
pub determined : {A : Type 0} {x y defined : A} → x ≡ defined → y ≡ defined → x ≡ y
determined p q = p ∙ sym q

-- The reader: verdict, fields, and where the application data stands.
pub reader_determined : (packet : List ℕ) (r s : Reading) → Reads packet r → Reads packet s → r ≡ s
reader_determined packet r s p q = determined p q

-- The reader of frames: verdict, stamp, where the source data stands, and what is told.
pub frames_determined : (frame : List ℕ) (r s : FrameReading) → FrameReads frame r → FrameReads frame s → r ≡ s
frames_determined frame r s p q = determined p q

-- The data part: its octets.
pub part_determined : (part : Span) (packet r s : List ℕ) → Hands part packet r → Hands part packet s → r ≡ s
part_determined part packet r s p q = determined p q

-- The writer: its answer, and the buffer to the last octet.
pub writer_determined : (o : Order) (application buffer : List ℕ) (r s : Written) (left right : List ℕ)
    → Writes o application buffer r left → Writes o application buffer s right → (r ≡ s) × (left ≡ right)
writer_determined o application buffer r s left right p q = (determined p.answer_is q.answer_is, determined p.buffer_is q.buffer_is)

-- The terminal: verdict, octets written, counts, the store and the output buffer.
pub terminal_determined : (i : Input) (r s : Outcome) (store store' out out' : List ℕ)
    → Answered i r store out → Answered i s store' out' → (r ≡ s) × (store ≡ store') × (out ≡ out')
terminal_determined i r s store store' out out' p q =
    (determined p.outcome_is q.outcome_is, determined p.store_is q.store_is, determined p.out_is q.out_is)

-- A line's answer: the text, how far it goes, the state, the store and the output buffer.
pub line_determined : (answer : List ℕ) (after : Station) (at : ℕ) (text : List ℕ) (r s : LineWritten) (store store' out out' left right : List ℕ)
    → Said answer after at text r store out left → Said answer after at text s store' out' right
    → (r ≡ s) × (store ≡ store') × (out ≡ out') × (left ≡ right)
line_determined answer after at text r s store store' out out' left right p q =
    ((λ i. record { at = determined p.says.at_is q.says.at_is i; state = determined p.state_is q.state_is i }), determined p.store_is q.store_is, determined p.out_is q.out_is, determined p.says.text_is q.says.text_is)

-- Input that is fed, for any program over lines: the text, how far it goes, what goes on, and what is left of the input.
pub feed_determined : {M : Type 0} (t : Turn M) (input text : List ℕ) (r s : Progress) (after after' : M) (kept kept' left right : List ℕ)
    → Feeds t input text r after kept left → Feeds t input text s after' kept' right
    → (r ≡ s) × (after ≡ after') × (kept ≡ kept') × (left ≡ right)
feed_determined t input text r s after after' kept kept' left right p q =
    ((λ i. record { have = determined p.have_is q.have_is i; begins = determined p.begins_is q.begins_is i; «open» = determined p.open_is q.open_is i; at = determined p.at_is q.at_is i }), determined p.after_is q.after_is, determined p.input_is q.input_is, determined p.text_is q.text_is)
