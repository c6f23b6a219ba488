-- Document 02, wish 5: "the check's number, its detail, and the first and last offset of its octets".
use Rattle.std.specs.Prelude.{List, ℕ, ◌-◌, Result, Ok, Err}
use Rattle.checks.specs.declared.Refusal.{Refusal}
use Rattle.checks.specs.Verdict.{Verdict}
use Rattle.checks.specs.Verdict.{check_number, verdict_by}
use Rattle.map.specs.declared.Profile.{Profile}
use Rattle.decide.specs.Table.{packet_rows}
use Rattle.decide.specs.Octets.{octets_of}
use Rattle.explaining.specs.declared.Reason.{Reason}

-- Why a packet is refused: the number of the check and its detail, and the first and the last of the octets that it looks at.
abbrev pub reason_for : List ℕ → Refusal → Reason
reason_for packet r = record {
  number = check_number r.check;
  detail = r.detail;
  first = (octets_of packet r).from;
  last = (octets_of packet r).to - 1;
}

-- What is said of a packet: it is accepted, or why it is refused.
abbrev pub Explanation : Type 0
Explanation = Result Unit Reason

-- What is said of a packet, by the verdict on it.
abbrev pub explained_by : List ℕ → Verdict → Explanation
explained_by packet (Ok _) = (Ok tt)
explained_by packet (Err r) = Err (reason_for packet r)

-- What is said of a packet under a profile: by the first of the checks on it that fails.
unfoldable pub explanation_of : Profile → List ℕ → Explanation
explanation_of p packet = explained_by packet (verdict_by (packet_rows p packet))
