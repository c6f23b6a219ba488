-- Which numbers the checks have, and which of them are silent.
-- Assumes nothing.
use Rattle.std.specs.Prelude.{Ok, Err}
use mathlib.Core.Path.{◌≡◌, refl, sym}
use mathlib.Core.Bool.{Bool, true, false, not, false≢true}
use mathlib.Core.List.{List, [], ◌∷◌}
use Prim.Native.Nat.{ℕ}
use lib.Dec.{leb}
use Rattle.laws.specs.Each.{every, among}
use Rattle.laws.proofs.Each.{every-among}
use Rattle.checks.specs.declared.Check.{Check}
use Rattle.checks.specs.declared.Check.TheVariants.{Buffer, Caller, Short, Length, Control, Header, Apid, Service, Subtype, Form, Memory, Right, Outside}
use Rattle.checks.specs.Verdict.{Verdict}
use Rattle.checks.specs.Verdict.{check_number, is_accepted, number_of, silent}

-- The numbers of the checks, in checking order.
abbrev pub numbers : List ℕ
numbers = 40 ∷ 41 ∷ 42 ∷ 1 ∷ 2 ∷ 16 ∷ 0 ∷ 3 ∷ 4 ∷ 5 ∷ 17 ∷ 18 ∷ 19 ∷ []

-- Each check has one of them.
pub numbered : (c : Check) → among (check_number c) numbers ≡ true
unfolding among
numbered Buffer = refl
numbered Caller = refl
numbered Short = refl
numbered Length = refl
numbered Control = refl
numbered Header = refl
numbered Apid = refl
numbered Service = refl
numbered Subtype = refl
numbered Form = refl
numbered Memory = refl
numbered Right = refl
numbered Outside = refl

-- A test that holds of those numbers holds of every check's.
pub every_number : (test : ℕ → Bool) → every test numbers ≡ true → (c : Check) → test (check_number c) ≡ true
every_number test all c = every-among test (check_number c) numbers all (numbered c)

-- Two tests agree.
abbrev alike : Bool → Bool → Bool
alike true b = b
alike false b = not b

alike_same : (a b : Bool) → alike a b ≡ true → a ≡ b
alike_same true b h = sym h
alike_same false true h = h
alike_same false false h = refl

-- The verdicts without a frame are those numbered 40, 41 and 42.
pub silent_numbers : (v : Verdict) → silent v ≡ among (number_of v) (40 ∷ 41 ∷ 42 ∷ [])
unfolding among every
silent_numbers (Ok _) = refl
silent_numbers (Err r) =
    alike_same _ _ (every_number (λ (n : ℕ). alike (leb 40 n) (among n (40 ∷ 41 ∷ 42 ∷ []))) by_all r.check)
  where
    by_all : every (λ (n : ℕ). alike (leb 40 n) (among n (40 ∷ 41 ∷ 42 ∷ []))) numbers ≡ true
    by_all = refl

-- A verdict without a frame is a refusal.
pub silent_refuses : (v : Verdict) → silent v ≡ true → is_accepted v ≡ false
silent_refuses (Ok _) h = absurd (false≢true h)
silent_refuses (Err r) h = refl
