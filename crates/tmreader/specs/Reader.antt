-- Document 02, wish 1: the checks 60 to 63 of a TM frame, in order, and what the reader returns.
use Rattle.std.specs.Prelude.{◌≡◌, Bool, cond, is_ok, Result, ◌&&◌, List, [], ◌∷◌, ℕ, ◌/◌, ◌%◌, length, drop, leb, eqb, Ok, Err, Option, None}
use Rattle.octets.specs.Numbers.{octet, word16}
use Rattle.octets.specs.Copy.{nowhere}
use Rattle.octets.specs.declared.copy.Span.{Span}
use Rattle.fields.specs.Fields.{packet_id, sequence}
use Rattle.fields.specs.declared.PacketId.{PacketId}
use Rattle.fields.specs.declared.Sequence.{Sequence}
use Rattle.checks.specs.Table.{Row, answer}
use Rattle.counts.specs.Counts.{category_of}
use Rattle.tm.specs.declared.Stamp.{Stamp}
use Rattle.tm.specs.Frame.{frame_head, frame_size}
use Rattle.contents.specs.declared.Kind.{Kind}
use Rattle.contents.specs.Kinds.{kind_of, is_known}
use Rattle.contents.specs.Source.{formed_if, contents_if}
use Rattle.contents.specs.Told.{Told, told_if}
use Rattle.tmreader.specs.declared.Flaw.{Flaw}
use Rattle.tmreader.specs.declared.Flaw.TheVariants.{Size, Header, Kind as BadKind, Source}
use Rattle.tmreader.specs.declared.Reading.{Reading}

-- The number of each check.
abbrev pub flaw_number : Flaw → ℕ
flaw_number Size = 60
flaw_number Header = 61
flaw_number BadKind = 62
flaw_number Source = 63

-- What a frame is answered: that it reads cleanly, or the first check that fails.
abbrev pub Verdict : Type 0
Verdict = Result Unit Flaw

-- That a frame reads cleanly is marked apart from every number.
abbrev pub is_clean : Verdict → Bool
is_clean v = is_ok v

-- The number of a refusal; 0 stands for none.
abbrev pub number_of : Verdict → ℕ
number_of (Ok _) = 0
number_of (Err flaw) = flaw_number flaw

-- ---- the checks

-- 60: at least 16 octets, and as many as the length field plus 7.
unfoldable pub size_right : List ℕ → Bool
size_right f = leb frame_head (length f) && eqb (length f) (frame_size f)

-- Version 0, type bit 0, header flag 1, and both sequence flags.
unfoldable pub bits_right : PacketId → Sequence → Bool
bits_right id control = eqb id.version 0 && eqb id.kind 0 && eqb id.header 1 && eqb control.flags 3

-- 61: those, and the octets 12 and 15 are zero.
unfoldable pub head_right : List ℕ → Bool
head_right f = bits_right (packet_id (word16 f 0)) (sequence (word16 f 2)) && eqb (octet f 12) 0 && eqb (octet f 15) 0

-- The kind of report that type and subtype, octets 13 and 14, say, if they say one.
abbrev pub kind_in : List ℕ → Option Kind
kind_in f = kind_of (octet f 13) (octet f 14)

-- 62: one of the six kinds, and the category of its service; any process ID.
unfoldable pub kind_right : List ℕ → Bool
kind_right f = is_known (kind_in f) && eqb ((packet_id (word16 f 0)).apid % 16) (category_of (octet f 13))

-- The source data, from octet 16 on.
abbrev pub source_in : List ℕ → List ℕ
source_in f = drop frame_head f

-- 63: source data of that kind.
abbrev pub source_right : List ℕ → Bool
source_right f = formed_if (kind_in f) (source_in f)

-- A row of the table: the check, and whether it holds.
abbrev pub row : Flaw → Bool → Row Flaw
row flaw holds = record { refusal = flaw; holds = holds }

-- The checks in their order.
unfoldable pub frame_rows : List ℕ → List (Row Flaw)
frame_rows f = row Size (size_right f) ∷ row Header (head_right f) ∷ row BadKind (kind_right f) ∷ row Source (source_right f) ∷ []

-- The verdict: the first check that fails.
unfoldable pub judged : List ℕ → Verdict
judged f = answer (Ok tt) Err (frame_rows f)

-- ---- what is read

-- The time, octets 6 to 11.
abbrev pub time_in : List ℕ → List ℕ
time_in f = octet f 6 ∷ octet f 7 ∷ octet f 8 ∷ octet f 9 ∷ octet f 10 ∷ octet f 11 ∷ []

-- Whose frame it is, the count, the time, type and subtype.
unfoldable pub stamp_in : List ℕ → Stamp
stamp_in f = record {
  pid = (packet_id (word16 f 0)).apid / 16;
  count = (sequence (word16 f 2)).count;
  time = time_in f;
  kind = octet f 13;
  subtype = octet f 14;
}

-- The stamp of a refused frame: all of it 0.
abbrev pub no_stamp : Stamp
no_stamp = record { pid = 0; count = 0; time = 0 ∷ 0 ∷ 0 ∷ 0 ∷ 0 ∷ 0 ∷ []; kind = 0; subtype = 0 }

-- Where the source data stands.
abbrev pub source_span : List ℕ → Span
source_span f = record { from = frame_head; to = length f }

-- What the reader returns.
unfoldable pub reading_of : List ℕ → Reading
reading_of f = record {
  verdict = judged f;
  stamp = cond (is_clean (judged f)) (stamp_in f) no_stamp;
  source = cond (is_clean (judged f)) (source_span f) nowhere;
  contents = cond (is_clean (judged f)) (contents_if (kind_in f) (source_in f)) None;
}

-- What the frame tells.
abbrev pub told_in : List ℕ → Told
told_in f = told_if f (reading_of f).contents

-- What a caller is promised: verdict, stamp, source data and contents, all by one equation.
abbrev pub Reads : List ℕ → Reading → Type 0
Reads f r = r ≡ reading_of f
