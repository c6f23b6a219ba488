-- The two definitions of the CRC agree on every list: the register's bits are the remainder of the division.
-- Assumes nothing.
use mathlib.Core.Path.{◌≡◌, refl, sym, ap, ◌∙◌}
use mathlib.Core.Bool.{Bool, true, false, cond, xor}
use mathlib.Core.List.{List, [], ◌∷◌, append-nil, append_assoc}
use Prim.Native.Nat.{ℕ, suc, ◌<◌}
use native.Mathlib.Omega.{arith}
use lib.ListN.{length, replicate}
use Rattle.crc.specs.Register.{all_ones, bits_of, take_bits, crc_from, crc_of}
use Rattle.crc.specs.Division.{plus, times, lower_g, modulo, message, remainder, check_sequence, number_of, preset_of, sequence_from, sequence_of}
use Rattle.crc.proofs.Polynomial.{xor_comm, plus_comm, plus_assoc, plus-append, length-plus, zeros_plus, number_of-preset_of}
use Rattle.crc.proofs.Places.{moved_up, taken_all, length_moved_up, number_of_taken_all}

-- G(X) added from the highest place on leaves the zeros below alone, in whichever summand it is added.
plus-lower_g : (s q : List Bool) (n : ℕ) → length q ≡ 16
    → plus lower_g (plus s (times n q)) ≡ plus s (times n (plus lower_g q))
unfolding plus
plus-lower_g s q n e =
    sym (plus_assoc lower_g s (times n q))
    ∙ ap (λ (x : List Bool). plus x (times n q)) (plus_comm lower_g s)
    ∙ plus_assoc s lower_g (times n q)
    ∙ ap (plus s) (plus-append lower_g q [] (replicate n false) (sym e))

-- The division of X^16 . M(X) + X^n . P(X), where M(X) has n bits and P(X) sixteen, leaves the places of a register that held P(X) and took M(X).
modulo-takes : (m p : List Bool) → length p ≡ 16 → modulo (length m) (plus (times 16 m) (times (length m) p)) ≡ taken_all p m
unfolding plus modulo
modulo-takes [] p e = ap (plus (replicate 16 false)) (append-nil p) ∙ zeros_plus 16 p e
modulo-takes (b ∷ m) [] e = absurd (omega arith)
modulo-takes (b ∷ m) (t ∷ p) e =
    ap (λ (q : List Bool). modulo (suc n) (xor b t ∷ plus (times 16 m) q)) (sym (append_assoc p (false ∷ []) (replicate n false)))
    ∙ ap (λ (u : Bool). modulo (suc n) (u ∷ plus (times 16 m) (times n q))) (xor_comm b t)
    ∙ by_cases (modulo-takes m) (xor t b)
  where
    n : ℕ
    n = length m

    q : List Bool
    q = moved_up p

    l : length q ≡ 16
    l = length_moved_up p (omega arith)

    by_cases : ((p : List Bool) → length p ≡ 16 → modulo n (plus (times 16 m) (times n p)) ≡ taken_all p m)
        → (u : Bool) → modulo (suc n) (u ∷ plus (times 16 m) (times n q)) ≡ taken_all (cond u (plus lower_g q) q) m
    by_cases ih true =
        ap (modulo n) (plus-lower_g (times 16 m) q n l) ∙ ih (plus lower_g q) (length-plus lower_g q (sym l) ∙ l)
    by_cases ih false = ih q l

-- The octets' bits are the message's.
crc_from-message : (r : ℕ) (xs : List ℕ) → crc_from r xs ≡ take_bits r (message xs)
unfolding take_bits crc_from message
crc_from-message r [] = refl
crc_from-message r (x ∷ xs) = crc_from-message (take_bits r (bits_of x)) xs

-- The register holds the division's remainder, from any start of sixteen bits, whatever the octets.
pub from_is_division : (start : ℕ) (xs : List ℕ) → start < 65536 → crc_from start xs ≡ sequence_from start xs
unfolding remainder sequence_from
from_is_division start xs h =
    crc_from-message start xs
    ∙ ap (λ (r : ℕ). take_bits r (message xs)) (sym (number_of-preset_of start h))
    ∙ sym (number_of_taken_all (preset_of start) (message xs) refl)
    ∙ ap number_of (sym (modulo-takes (message xs) (preset_of start) refl))

-- From all ones it is A4.2's own.
pub crc_is_division : (xs : List ℕ) → crc_of xs ≡ sequence_of xs
unfolding check_sequence sequence_from sequence_of
crc_is_division xs = from_is_division all_ones xs (omega arith)
