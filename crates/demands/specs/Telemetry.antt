-- The second demand with document 02's wish 1, of any reader of frames and any terminal: "What the terminal writes reads back as the same fields; what reads cleanly is a frame by 01's TM layouts, whatever values service 1 carries in them. [..] Refusals, in order: 60 [..], 61 [..], 62 [..], 63 [..]."
use Rattle.std.specs.Prelude.{◌≡◌, false, List, [], ◌∷◌, map, ℕ, take, Ok, Err, None}
use Rattle.octets.specs.Numbers.{Octets}
use Rattle.octets.specs.Copy.{placed}
use Rattle.checks.specs.Table.{Row, First, AllHold}
use Rattle.tm.specs.Frame.{cut}
use Rattle.tmreader.specs.declared.Flaw.{Flaw}
use Rattle.tmreader.specs.Reader.{Verdict}
use Rattle.tmreader.specs.Reader.{flaw_number, is_clean, number_of, frame_rows, no_stamp}
use Rattle.tmreader.specs.Telling.{FrameReader, IsFrame}
use Rattle.terminal.specs.Outcome.{Input}
use Rattle.framing.specs.Framing.{InOctets}
use Rattle.framing.specs.Reading.{DueRead}
use Rattle.demands.specs.Terminal.{Terminal}

-- ---- exactly when each refusal

-- A verdict refuses by a number.
abbrev pub RefusedBy : ℕ → Verdict → Type 0
RefusedBy n v = (is_clean v ≡ false) × (number_of v ≡ n)

-- The first check of a table that fails has a number.
abbrev pub FirstHas : ℕ → List (Row Flaw) → Type 0
FirstHas n table = (r : Row Flaw) × First table r × (flaw_number r.refusal ≡ n)

-- A table decides a verdict on a frame: its first check that fails gives the number, it is clean where none fails, and each number is given exactly when its check is the first that fails.
pub record DecidesFrame (table : List (Row Flaw)) (v : Verdict) : Type 0 where
  pub refuses : (r : Row Flaw) → First table r → v ≡ Err r.refusal
  pub passes : AllHold table → v ≡ Ok tt
  pub when : (n : ℕ) → FirstHas n table → RefusedBy n v
  pub only : (n : ℕ) → RefusedBy n v → FirstHas n table

-- The table has 60 to 63, in their order.
abbrev pub FrameOrder : Type 0
FrameOrder = (f : List ℕ) → map (λ (r : Row Flaw). flaw_number r.refusal) (frame_rows f) ≡ 60 ∷ 61 ∷ 62 ∷ 63 ∷ []

-- ---- the demand

-- Of a reader of frames: it refuses by that table; of a refused frame it returns nothing; and whatever it reads cleanly is the frame of what it read, octet for octet.
pub record ReadsFrames (read : FrameReader) : Type 0 where
  pub decides : (f : List ℕ) → DecidesFrame (frame_rows f) (read f).verdict
  pub no_stamp_lem : (f : List ℕ) → is_clean (read f).verdict ≡ false → (read f).stamp ≡ no_stamp
  pub no_source : (f : List ℕ) → is_clean (read f).verdict ≡ false → placed (read f).source f ≡ []
  pub no_contents : (f : List ℕ) → is_clean (read f).verdict ≡ false → (read f).contents ≡ None
  pub frames : (f : List ℕ) → Octets f → (read f).verdict ≡ Ok tt → IsFrame read f

-- Of a terminal and a reader: the frames that stand at the front of the output buffer, cut by their length fields, are read back, one for each thing that the packet is told, each with its own stamp and contents.
abbrev pub FramesReadBack : Terminal → FrameReader → Type 0
FramesReadBack f read = (i : Input) → InOctets i → DueRead read i (cut (take (f i).outcome.written (f i).out))
