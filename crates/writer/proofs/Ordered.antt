-- The order of the writer's checks.
-- Assumes nothing.
use mathlib.Core.Path.{◌≡◌, refl}
use mathlib.Core.List.{[], ◌∷◌, map}
use Prim.Native.Nat.{ℕ}
use Rattle.checks.specs.Table.{Row}
use Rattle.writer.specs.declared.Order.{Order}
use Rattle.writer.specs.declared.WriteError.{WriteError}
use Rattle.writer.specs.Writer.{error_number, writer_rows}

-- The writer's checks have the numbers 50, 51 and 52, in that order.
pub rows_numbered : (o : Order) (octets room : ℕ) → map (λ (r : Row WriteError). error_number r.refusal) (writer_rows o octets room) ≡ 50 ∷ 51 ∷ 52 ∷ []
unfolding writer_rows
rows_numbered o octets room = refl
