-- Document 02, wish 7: a TM line beside the frame that is due there, its time taken as given and every other octet compared.
use Rattle.std.specs.Prelude.{Bool, cond, ◌&&◌, ◌||◌, List, [], ◌∷◌, ℕ, suc, length, eqb, leb, ltb}
use Rattle.tm.specs.Frame.{time_first, time_end}

-- Whether an octet of a frame is the time's.
abbrev pub is_time : ℕ → Bool
is_time k = leb time_first k && ltb k time_end

-- The first octet, so many passed, at which the frame due and the octets found differ, the time's aside, or at which one of them ends.
unfoldable pub parting_from : ℕ → List ℕ → List ℕ → ℕ
parting_from k [] found = k
parting_from k (x ∷ due) [] = k
parting_from k (x ∷ due) (y ∷ found) = cond (is_time k || eqb x y) (parting_from (suc k) due found) k

abbrev pub parting_of : List ℕ → List ℕ → ℕ
parting_of due found = parting_from 0 due found

-- Whether they agree: they end at one place, and before it differ in nothing but the time.
unfoldable pub agrees : List ℕ → List ℕ → Bool
agrees due found = eqb (parting_of due found) (length due) && eqb (length due) (length found)
