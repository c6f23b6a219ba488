-- What laying reports into the output buffer from a place on does: to the buffer, to the counts and to the place.
use Rattle.std.specs.Prelude.{◌≡◌, ℕ, ◌+◌, ◌*◌, ◌%◌, List, ◌++◌, length}
use Rattle.laws.specs.Fold.{joined}
use Rattle.octets.specs.Copy.{laid}
use Rattle.tm.specs.declared.Stamp.{Stamp}
use Rattle.counts.specs.declared.Counts.{Counts}
use Rattle.counts.specs.Counts.{count_for}
use Rattle.tm.specs.Frame.{Report, head_of, frames_of, counts_after}
use Rattle.reports.specs.Source.{check_head}
use Rattle.laying.specs.declared.Sender.{Sender}
use Rattle.laying.specs.declared.Progress.{Progress}

-- The stamp of the next report of a type and subtype.
abbrev pub stamp_for : Sender → Counts → ℕ → ℕ → Stamp
stamp_for sender c kind subtype = record { pid = sender.pid; count = count_for c kind; time = sender.time; kind = kind; subtype = subtype }

-- The octets of some reports' frames.
abbrev pub octets_for : Sender → Counts → List Report → List ℕ
octets_for sender counts reports = joined (frames_of sender.pid sender.time counts reports)

-- These reports are laid; the place afterwards is a number of 16 bits.
pub record Lays (sender : Sender) (before after : Progress) (out out' : List ℕ) (reports : List Report) : Type 0 where
  pub at_is : after.at ≡ (before.at + length (octets_for sender before.counts reports)) % 65536
  pub counts_is : after.counts ≡ counts_after before.counts reports
  pub out_is : out' ≡ laid out before.at (octets_for sender before.counts reports)

-- What stands before the entries of (6,10).
unfoldable pub check_first : Stamp → ℕ → ℕ → List ℕ
check_first s memory n = head_of s (n * 8 + 2) ++ check_head memory n
