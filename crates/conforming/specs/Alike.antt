-- Records that are alike: the same TCs, and TM lines that are the same but for their times.
use Rattle.std.specs.Prelude.{◌≡◌, false, List, [], ◌∷◌, ℕ, length, get_or}
use Rattle.characters.specs.Digits.{octets_in}
use Rattle.beside.specs.Beside.{is_time}
use Rattle.conforming.specs.Groups.{Line, Group}

-- Two lines have the same octets, as many and at each place, but for the time's.
pub record Alike (a b : Line) : Type 0 where
  pub as_many : length (octets_in a) ≡ length (octets_in b)
  pub same : (k : ℕ) → is_time k ≡ false → get_or (octets_in a) k 0 ≡ get_or (octets_in b) k 0

-- Lines are alike, in order and number.
unfoldable pub AllAlike : List Line → List Line → Type 0
AllAlike [] [] = Unit
AllAlike [] (b ∷ bs) = ⊥
AllAlike (a ∷ more) [] = ⊥
AllAlike (a ∷ more) (b ∷ bs) = Alike a b × AllAlike more bs

-- The TCs of some groups, in order: their octets.
unfoldable pub packets_of : List Group → List (List ℕ)
packets_of [] = []
packets_of ([] ∷ rest) = packets_of rest
packets_of ((tc ∷ tms) ∷ rest) = octets_in tc ∷ packets_of rest

-- The TM lines of some groups, group by group.
unfoldable pub reports_of : List Group → List (List Line)
reports_of [] = []
reports_of ([] ∷ rest) = reports_of rest
reports_of ((tc ∷ tms) ∷ rest) = tms ∷ reports_of rest

-- The TM lines of two records are alike, group by group.
unfoldable pub GroupsAlike : List (List Line) → List (List Line) → Type 0
GroupsAlike [] [] = Unit
GroupsAlike [] (b ∷ bs) = ⊥
GroupsAlike (a ∷ more) [] = ⊥
GroupsAlike (a ∷ more) (b ∷ bs) = AllAlike a b × GroupsAlike more bs
