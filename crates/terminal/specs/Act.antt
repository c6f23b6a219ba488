-- What a step of an answer does: the reports that it lays into the output buffer from a place on, and the counts and the place afterwards.
use Rattle.std.specs.Prelude.{◌≡◌, List, ℕ, ◌+◌, ◌≤◌, length}
use Rattle.octets.specs.Copy.{laid, placed}
use Rattle.tm.specs.Frame.{Report, counts_after}
use Rattle.laying.specs.declared.Sender.{Sender}
use Rattle.laying.specs.declared.Progress.{Progress}
use Rattle.laying.specs.Lays.{octets_for}
use Rattle.serving.specs.declared.Work.{Work}
use Rattle.terminal.specs.Done.{Done, done}
use Rattle.terminal.specs.Outcome.{answer_most, reports_for}

-- The octets of (1,1) and of (1,7), of (1,2), of one (6,6) at most, and of a service's reports at most.
abbrev pub echo_size : ℕ
echo_size = 20

abbrev pub refusal_size : ℕ
refusal_size = 24

abbrev pub dump_most : ℕ
dump_most = 504

abbrev pub service_most : ℕ
service_most = 4032

-- A step has laid these reports, of at most so many octets.
pub record Did (most : ℕ) (sender : Sender) (before after : Progress) (out out' : List ℕ) (reports : List Report) : Type 0 where
  pub at_is : after.at ≡ before.at + length (octets_for sender before.counts reports)
  pub counts_is : after.counts ≡ counts_after before.counts reports
  pub out_is : out' ≡ laid out before.at (octets_for sender before.counts reports)
  pub bounded : after.at ≤ before.at + most

-- A step has done what a service does.
pub record Serves (sender : Sender) (before after : Progress) (out out' : List ℕ) (deeds : Done) (store' : List ℕ) : Type 0 where
  pub did : Did service_most sender before after out out' deeds.reports
  pub store_is : store' ≡ deeds.store

-- All that an accepted packet's work does.
pub record CarriesOut (sender : Sender) (work : Work) (before after : Progress) (packet out out' store store' : List ℕ) : Type 0 where
  pub did : Did answer_most sender before after out out' (reports_for work.ack packet (done work.task (placed work.«data» packet) store).reports)
  pub store_is : store' ≡ (done work.task (placed work.«data» packet) store).store
