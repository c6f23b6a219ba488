-- Each report that is laid, as a step of an answer.
-- Assumes nothing.
use mathlib.Core.Path.{◌≡◌, subst}
use mathlib.Core.Bool.{Bool}
use mathlib.Core.List.{List, [], ◌∷◌}
use Prim.Native.Nat.{ℕ, ◌+◌, ◌≤◌}
use native.Mathlib.Omega.{arith}
use lib.ListN.{length}
use Rattle.checks.specs.Verdict.{Verdict}
use Rattle.map.specs.declared.Area.{Area}
use Rattle.map.specs.Place.{dump_words}
use Rattle.blocks.specs.declared.Block.{Block}
use Rattle.blocks.specs.Blocks.{block_count}
use Rattle.blocks.specs.Form.{blocks_most}
use Rattle.tm.specs.Frame.{Report}
use Rattle.reports.specs.Source.{echoed}
use Rattle.laying.specs.declared.Sender.{Sender}
use Rattle.laying.specs.declared.Progress.{Progress}
use Rattle.laying.specs.Reports.{echo, failed, dumped, checked, connected, asked}
use Rattle.laying.specs.Lays.{Lays}
use Rattle.laying.proofs.Echoing.{echo_same, failed_same}
use Rattle.terminal.specs.Act.{echo_size, refusal_size, dump_most, service_most, Did}
use Rattle.terminal.proofs.Sizes.{echo_most, failed_most, dumped_most, checked_most}
use Rattle.terminal.proofs.Steps.{did_laid}

module _ (sender : Sender) (six : length sender.time ≡ 6) (p q : Progress) (out out' : List ℕ) where
  -- (1,1) and (1,7).
  pub did_echo : (asks : Bool) (subtype : ℕ) (packet : List ℕ) → 4 ≤ length packet → p.at ≤ echo_size + service_most
      → Lays sender p q out out' (asked asks (echo subtype (echoed packet))) → Did echo_size sender p q out out' (asked asks (echo subtype packet))
  did_echo asks subtype packet four early lays =
      did_laid sender echo_size p q out out' (asked asks (echo subtype packet)) six (echo_most asks subtype packet) (omega arith)
      (subst (λ (r : Report). Lays sender p q out out' (asked asks r)) (echo_same packet four subtype) lays)

  -- (1,2).
  pub did_refusal : (v : Verdict) (packet : List ℕ) → 4 ≤ length packet → p.at ≤ echo_size
      → Lays sender p q out out' (failed v (echoed packet) ∷ []) → Did refusal_size sender p q out out' (failed v packet ∷ [])
  did_refusal v packet four early lays =
      did_laid sender refusal_size p q out out' (failed v packet ∷ []) six (failed_most v packet) (omega arith)
      (subst (λ (r : Report). Lays sender p q out out' (r ∷ [])) (failed_same packet four v) lays)

  -- (17,2).
  pub did_connection : p.at ≤ echo_size → Lays sender p q out out' (connected ∷ []) → Did service_most sender p q out out' (connected ∷ [])
  did_connection early lays = did_laid sender service_most p q out out' (connected ∷ []) six (omega arith) (omega arith) lays

  -- (6,6) for a block that is not too long.
  pub did_block : (a : Area) (memory : ℕ) (store : List ℕ) (b : Block) → b.words ≤ dump_words → p.at ≤ service_most
      → Lays sender p q out out' (dumped a memory store b ∷ []) → Did dump_most sender p q out out' (dumped a memory store b ∷ [])
  did_block a memory store b words early lays =
      did_laid sender dump_most p q out out' (dumped a memory store b ∷ []) six (dumped_most a memory store b words) (omega arith) lays

  -- (6,10) for at most eight blocks.
  pub did_check : (a : Area) (d store : List ℕ) → block_count d ≤ blocks_most → p.at ≤ echo_size
      → Lays sender p q out out' (checked a d store ∷ []) → Did service_most sender p q out out' (checked a d store ∷ [])
  did_check a d store few early lays =
      did_laid sender service_most p q out out' (checked a d store ∷ []) six (checked_most a d store few) (omega arith) lays
