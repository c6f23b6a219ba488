-- A table in text: rows are counted from 0, and a newline ends each.
use Rattle.std.specs.Prelude.{cond, List, [], ◌∷◌, ℕ, zero, suc, ◌+◌, take, drop, eqb}
use Rattle.lines.specs.Lines.{newline}

-- How many characters the first row of a table has.
unfoldable pub row_length : List ℕ → ℕ
row_length [] = 0
row_length (c ∷ rest) = cond (eqb c newline) 0 (suc (row_length rest))

-- The row of a table by its number; past the last one nothing.
unfoldable pub row_of : ℕ → List ℕ → List ℕ
row_of zero table = take (row_length table) table
row_of (suc number) table = row_of number (drop (row_length table + 1) table)
