-- The reports that repeat a packet's first four octets, where it has them.
-- Assumes nothing.
use Rattle.std.proofs.Common.{◌≡◌, ℕ, ◌≤◌, List, ◌++◌, length}
use Rattle.checks.specs.Verdict.{Verdict}
use Rattle.checks.specs.Verdict.{number_of, detail_of}
use Rattle.reports.specs.Source.{echoed, failure}
use Rattle.reports.proofs.Echoes.{echoed-eq}
use Rattle.laying.specs.Reports.{echo, failed}

module _ (packet : List ℕ) (four : 4 ≤ length packet) where
  pub echo_same : (subtype : ℕ) → echo subtype (echoed packet) ≡ echo subtype packet
  echo_same subtype i = record { kind = 1; subtype = subtype; source = echoed-eq packet four i }

  pub failed_same : (v : Verdict) → failed v (echoed packet) ≡ failed v packet
  failed_same v i = record { kind = 1; subtype = 2; source = echoed-eq packet four i ++ failure (number_of v) (detail_of v) }
