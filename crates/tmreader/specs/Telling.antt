-- The frame that tells something, by the layouts of document 01; and what a frame reads as.
use Rattle.std.specs.Prelude.{◌≡◌, List, ℕ, ◌<◌, length, Ok}
use Rattle.octets.specs.Numbers.{Octets}
use Rattle.octets.specs.Copy.{placed}
use Rattle.tm.specs.declared.Stamp.{Stamp}
use Rattle.tm.specs.Frame.{frame_of}
use Rattle.contents.specs.Kinds.{type_of, subtype_of}
use Rattle.contents.specs.Told.{Told, kind_told, source_of, Fits, told_if}
use Rattle.tmreader.specs.declared.Reading.{Reading}

-- The stamp of a frame that tells something: its type and subtype are those of its kind.
abbrev pub stamp_for : ℕ → ℕ → List ℕ → Told → Stamp
stamp_for pid count time t = record { pid = pid; count = count; time = time; kind = type_of (kind_told t); subtype = subtype_of (kind_told t) }

-- The frame.
abbrev pub frame_for : ℕ → ℕ → List ℕ → Told → List ℕ
frame_for pid count time t = frame_of (stamp_for pid count time t) (source_of t)

-- A reader of frames: what it returns of any octets. Ours is one of them.
abbrev pub FrameReader : Type 0
FrameReader = List ℕ → Reading

-- What a reader has a frame tell.
abbrev pub told_to : FrameReader → List ℕ → Told
told_to read f = told_if f (read f).contents

-- What a frame reads as: cleanly, with that stamp, and telling that; and the source data handed back is what tells it.
pub record ReadsAs (read : FrameReader) (s : Stamp) (t : Told) (f : List ℕ) : Type 0 where
  pub verdict : (read f).verdict ≡ Ok tt
  pub stamp : (read f).stamp ≡ s
  pub told : told_to read f ≡ t
  pub source : placed (read f).source f ≡ source_of t

-- A process ID of 7 bits, a count of 14, and six octets of time.
pub record StampFits (pid count : ℕ) (time : List ℕ) : Type 0 where
  pub of_7 : pid < 128
  pub of_14 : count < 16384
  pub six : length time ≡ 6
  pub octets : Octets time

-- What a frame is that reads cleanly: the frame of what was read, all of which has room in it.
pub record IsFrame (read : FrameReader) (f : List ℕ) : Type 0 where
  pub whole : frame_for (read f).stamp.pid (read f).stamp.count (read f).stamp.time (told_to read f) ≡ f
  pub kind : (read f).stamp.kind ≡ type_of (kind_told (told_to read f))
  pub subtype : (read f).stamp.subtype ≡ subtype_of (kind_told (told_to read f))
  pub stamp : StampFits (read f).stamp.pid (read f).stamp.count (read f).stamp.time
  pub told : Fits (told_to read f)
