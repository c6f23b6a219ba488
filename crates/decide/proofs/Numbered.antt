-- The block that a refusal numbers, from what is read of the packet, and where it begins.
-- Assumes nothing.
use Rattle.std.specs.Prelude.{Option}
use mathlib.Core.Path.{◌≡◌}
use mathlib.Core.List.{List}
use Prim.Native.Nat.{ℕ, ◌-◌, ◌≤◌}
use native.Mathlib.Omega.{arith}
use lib.ListN.{length}
use Rattle.octets.specs.declared.copy.Span.{Span}
use Rattle.octets.specs.Copy.{placed}
use Rattle.octets.proofs.Between.{between_most}
use Rattle.tc.specs.declared.Fields.{Fields}
use Rattle.tc.specs.Layout.{fields_of, data_span, application_of}
use Rattle.blocks.specs.declared.Block.{Block}
use Rattle.blocks.specs.Blocks.{block_behind}
use Rattle.blocks.proofs.Behind.{behind_at}
use Rattle.requests.specs.declared.Request.{Request}
use Rattle.requests.specs.Request.{asked_for}
use Rattle.addressing.specs.Requested.{asked_by}
use Rattle.decide.specs.Octets.{carried_for, block_numbered}

-- What is read, step by step, is the block.
pub numbered : (p : List ℕ) (number : ℕ) (f : Fields) (asked : Option Request) (carried others : ℕ) {application : List ℕ} {span : Span} {b : Block}
    → f ≡ fields_of p → asked ≡ asked_for f.kind f.subtype → application ≡ placed span p → span ≡ data_span p → carried ≡ carried_for asked → others ≡ number - 1
    → b ≡ block_behind carried application others → b ≡ block_numbered p number
unfolding application_of
numbered p number f asked carried others read asks part whole carries before block =
    rw (read, whole, before) at (rw (carries, asks, part) at block)

-- It begins in the packet.
pub numbered_at : (p : List ℕ) (number : ℕ) → (block_numbered p number).at ≤ length p
unfolding application_of
numbered_at p number =
    omega (arith, behind_at (carried_for (asked_by (fields_of p))) (application_of p) (number - 1), between_most 10 (length p - 2) p)
