-- Laws of the forms of lines: the command of a bad line, and how long a line is.
-- Assumes nothing.
use Rattle.commands.specs.Form.{line_most, is_spaced, is_line, command_of}
use Rattle.std.specs.Prelude.{None}
use lib.Dec.{eqb}
use lib.ListN.{length}
use Prim.Native.Nat.{ℕ, ◌≤◌}
use mathlib.Core.Bool.{true, false}
use mathlib.Core.List.{List}
use mathlib.Core.Logic.{⊎_elim}
use mathlib.Core.Path.{◌≡◌}
use native.Mathlib.Omega.{arith}
use borrow.Author.Tests.{eqb-true, leb-true}
use Rattle.laws.proofs.Tests.{halves, or_cases}

-- A bad line has no command, whatever it gives.
pub no_command : (line given : List ℕ) → is_line line ≡ false → command_of line given ≡ None
unfolding command_of
no_command line given bad = rw bad

-- A line has at most 140,002 characters.
pub line_most_lem : (line : List ℕ) → is_line line ≡ true → length line ≤ line_most
unfolding is_line
line_most_lem line good =
    ⊎_elim
    (λ one. omega (arith, eqb-true (length line) 1 one))
    (λ (spaced : is_spaced line ≡ true). leb-true (length line) line_most (search halves))
    (or_cases (eqb (length line) 1) (is_spaced line) good)
