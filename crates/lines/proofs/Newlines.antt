-- The first newline of some characters, found one character after another.
-- Assumes nothing.
use Rattle.std.specs.Prelude.{Some, None}
use Rattle.std.specs.List.{position, position_from}
use mathlib.Core.Path.{◌≡◌, refl, sym, ◌∙◌}
use mathlib.Core.List.{List}
use Prim.Native.Nat.{ℕ, ◌+◌, ◌≤◌, ◌<◌}
use lib.ListN.{length, get_or, drop, drop_of_length-le}
use lib.Dec.{eqb}
use borrow.Author.Tests.{eq-eqb, ne_eqb}
use Rattle.laws.proofs.Lists.{drop_next}
use Rattle.lines.specs.Lines.{newline}

-- None of the characters before a place is one.
abbrev pub Ahead : List ℕ → ℕ → Type 0
Ahead s i = position (λ (c : ℕ). eqb c newline) s ≡ position_from (λ (c : ℕ). eqb c newline) i (drop i s)

module _ (s : List ℕ) (i : ℕ) (none : Ahead s i) where
  pub newline_here : i < length s → get_or s i 0 ≡ newline → Some i ≡ position (λ (c : ℕ). eqb c newline) s
  newline_here h e = sym (none ∙ rw (drop_next s i h, eq-eqb (get_or s i 0) newline e) refl)

  pub newline_later : i < length s → (get_or s i 0 ≡ newline → ⊥) → Ahead s (i + 1)
  newline_later h n = none ∙ rw (drop_next s i h, ne_eqb (get_or s i 0) newline n) refl

  pub newline_never : length s ≤ i → None ≡ position (λ (c : ℕ). eqb c newline) s
  newline_never h = sym (none ∙ rw (drop_of_length-le s {i = i} h) refl)
