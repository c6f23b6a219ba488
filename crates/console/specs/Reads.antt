-- What can be said of a read: no contract says what it brings.
use Rattle.std.specs.Prelude.{◌≡◌, List, ℕ, ◌≤◌, ◌<◌, length, take, Option, Some, None, Result, Ok, Err}
use Rattle.console.specs.declared.Ended.{Ended}

-- Where there is more input, it is more than before, and lies in the buffer.
abbrev pub Within : ℕ → List ℕ → Result (Option ℕ) Ended → Type 0
Within have input (Ok (Some now)) = (have < now) × (now ≤ length input)
Within have input (Ok None) = Unit {0}
Within have input (Err _) = Unit {0}

-- What a caller is promised of a read behind so much input: the buffer keeps its length, and that input.
pub record Reads (have : ℕ) (input : List ℕ) (r : Result (Option ℕ) Ended) (input' : List ℕ) : Type 0 where
  pub size : length input' ≡ length input
  pub kept : take have input' ≡ take have input
  pub within : Within have input r
