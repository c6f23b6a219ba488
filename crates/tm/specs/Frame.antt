-- Document 01, "TM packet": the layout, once, and the frames of some reports in turn.
use Rattle.std.specs.Prelude.{◌≡◌, List, [], ◌∷◌, ◌++◌, ℕ, zero, suc, ◌+◌, ◌-◌, ◌%◌, length, take, drop}
use Rattle.octets.specs.Numbers.{octet, word16, octets16}
use Rattle.fields.specs.Fields.{id_of, control_of, apid_of}
use Rattle.octets.specs.Copy.{laid}
use Rattle.tm.specs.declared.Stamp.{Stamp}
use Rattle.counts.specs.declared.Counts.{Counts}
use Rattle.counts.specs.Counts.{category_of, count_for, counted}

-- The octets before a frame's source data, and what the length field leaves out of a frame's octets.
abbrev pub frame_head : ℕ
frame_head = 16

abbrev pub uncounted : ℕ
uncounted = 7

-- A time is six octets; one that is missing counts as 0.
abbrev pub time_of : List ℕ → List ℕ
time_of time = octet time 0 ∷ octet time 1 ∷ octet time 2 ∷ octet time 3 ∷ octet time 4 ∷ octet time 5 ∷ []

-- The sixteen octets before the source data of a frame with so many octets of it; the length field is the total of octets minus 7, of which it has room for 16 bits.
unfoldable pub head_of : Stamp → ℕ → List ℕ
head_of s octets =
    octets16 (id_of (record { version = 0; kind = 0; header = 1; apid = apid_of s.pid (category_of s.kind) }))
    ++ octets16 (control_of (record { flags = 3; count = s.count }))
    ++ octets16 ((octets + frame_head - uncounted) % 65536)
    ++ s.time
    ++ 0 ∷ s.kind ∷ s.subtype ∷ 0 ∷ []

-- A frame: no error control.
unfoldable pub frame_of : Stamp → List ℕ → List ℕ
frame_of s source = head_of s (length source) ++ source

-- The octets of a frame that are its time, 6 to 11; and a frame with another time.
abbrev pub time_first : ℕ
time_first = 6

abbrev pub time_end : ℕ
time_end = 12

abbrev pub timed : List ℕ → List ℕ → List ℕ
timed time frame = take time_first frame ++ (time ++ drop time_end frame)

-- A report before it is stamped: its type, subtype and source data.
pub record Report : Type 0 where
  pub kind : ℕ
  pub subtype : ℕ
  pub source : List ℕ

-- A report's frame.
unfoldable pub stamped : ℕ → List ℕ → Counts → Report → List ℕ
stamped pid time c r =
    frame_of (record { pid = pid; count = count_for c r.kind; time = time; kind = r.kind; subtype = r.subtype }) r.source

-- The frames of some reports in turn.
unfoldable pub frames_of : ℕ → List ℕ → Counts → List Report → List (List ℕ)
frames_of pid time c [] = []
frames_of pid time c (r ∷ rest) = stamped pid time c r ∷ frames_of pid time (counted c r.kind) rest

-- The counts after some reports in turn.
unfoldable pub counts_after : Counts → List Report → Counts
counts_after c [] = c
counts_after c (r ∷ rest) = counts_after (counted c r.kind) rest

-- How long the frame is that some octets begin with, by its length field.
abbrev pub frame_size : List ℕ → ℕ
frame_size s = word16 s 4 + uncounted

-- At most so many frames that stand one behind another, cut by their length fields.
unfoldable pub cut_frames : ℕ → List ℕ → List (List ℕ)
cut_frames zero s = []
cut_frames (suc n) [] = []
cut_frames (suc n) (x ∷ s) = take (frame_size (x ∷ s)) (x ∷ s) ∷ cut_frames n (drop (frame_size (x ∷ s)) (x ∷ s))

-- All that stand there: no more frames than octets.
abbrev pub cut : List ℕ → List (List ℕ)
cut s = cut_frames (length s) s

-- What a caller is promised of a frame that is laid into a buffer from a place on: its length, and the buffer afterwards.
pub record LaysFrame (frame : List ℕ) (at : ℕ) (out : List ℕ) (r : ℕ) (out' : List ℕ) : Type 0 where
  pub length_is : r ≡ length frame
  pub out_is : out' ≡ laid out at frame
