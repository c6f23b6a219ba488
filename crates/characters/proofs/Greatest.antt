-- The greatest value of a text's characters is below 16 just where all of them are digits.
-- Assumes nothing.
use mathlib.Core.Path.{◌≡◌, refl, sym, ◌∙◌}
use mathlib.Core.Bool.{◌&&◌, and_assoc, and-true, and-false}
use mathlib.Core.List.{List, [], ◌∷◌}
use Prim.Native.Nat.{ℕ, max}
use native.Mathlib.Omega.{arith}
use lib.Dec.{ltb}
use borrow.Author.Tests.{lt-ltb, le-ltb}
use Rattle.std.specs.List.{fold}
use Rattle.laws.proofs.Order.{by_order}
use Rattle.characters.specs.Digits.{value_of, all_digits_of}

-- The greater of two numbers is below a bound where both are.
max_below : (m n bound : ℕ) → ltb (max m n) bound ≡ ltb m bound && ltb n bound
max_below m n bound =
    by_order bound m
    (λ large. rw (le-ltb m bound large, le-ltb (max m n) bound (omega arith)) refl)
    (λ small.
    by_order bound n
    (λ large. rw (le-ltb n bound large, and-false, le-ltb (max m n) bound (omega arith)) refl)
    (λ less. rw (lt-ltb m bound small, lt-ltb n bound less, lt-ltb (max m n) bound (omega arith)) refl))

greatest_from : (s : List ℕ) (most : ℕ) → ltb (fold (λ m x. max m (value_of x)) most s) 16 ≡ ltb most 16 && all_digits_of s
unfolding all_digits_of
greatest_from [] most = sym (and-true (ltb most 16))
greatest_from (c ∷ s) most = greatest_from s (max most (value_of c)) ∙ (rw (max_below most (value_of c) 16) (and_assoc (ltb most 16) (ltb (value_of c) 16) (all_digits_of s)))

pub greatest_tells : (s : List ℕ) → ltb (fold (λ m x. max m (value_of x)) 0 s) 16 ≡ all_digits_of s
greatest_tells s = greatest_from s 0
