-- The same CRC as source document 004 writes it in its appendix A4.2: the remainder of a division of polynomials with coefficients 0 and 1. A polynomial is the list of its coefficients, the highest power first.
use Rattle.std.specs.Prelude.{Bool, true, false, List, [], ◌∷◌, ◌++◌, ℕ, zero, suc, ◌+◌, ◌*◌, ◌/◌, ◌%◌, ◌^◌, length, replicate}
use Rattle.std.specs.Bool.{xor}
use Rattle.crc.specs.Register.{bits_of}

-- The sum of two polynomials, coefficient by coefficient, modulo 2.
unfoldable pub plus : List Bool → List Bool → List Bool
plus [] q = q
plus (a ∷ p) [] = a ∷ p
plus (a ∷ p) (b ∷ q) = xor a b ∷ plus p q

-- The product of a polynomial and X^n.
abbrev pub times : ℕ → List Bool → List Bool
times n p = p ++ replicate n false

-- The generating polynomial G(X) = X^16 + X^12 + X^5 + 1 without its first term.
abbrev pub lower_g : List Bool
lower_g =
    false ∷ false ∷ false ∷ true ∷ false ∷ false ∷ false ∷ false ∷
    false ∷ false ∷ true ∷ false ∷ false ∷ false ∷ false ∷ true ∷ []

-- Long division by G(X): at each of the n highest places in turn, where the coefficient there is 1, G(X) is taken away from that place on. What is left is the remainder.
unfoldable pub modulo : ℕ → List Bool → List Bool
modulo zero p = p
modulo (suc n) [] = []
modulo (suc n) (false ∷ p) = modulo n p
modulo (suc n) (true ∷ p) = modulo n (plus lower_g p)

-- The message polynomial M(X) of a list of octets.
unfoldable pub message : List ℕ → List Bool
message [] = []
message (x ∷ xs) = bits_of x ++ message xs

-- The presetting polynomial L(X): all ones, of order 15.
abbrev pub preset : List Bool
preset = replicate 16 true

-- A4.2's equation, for a message of n - 16 bits and any presetting polynomial P(X) of sixteen coefficients in the place of L(X): [X^16 . M(X) + X^(n-16) . P(X)] modulo G(X).
unfoldable pub remainder : List Bool → List Bool → List Bool
remainder p m = modulo (length m) (plus (times 16 m) (times (length m) p))

-- A4.2's own: PCS = [X^16 . M(X) + X^(n-16) . L(X)] modulo G(X).
unfoldable pub check_sequence : List Bool → List Bool
check_sequence m = remainder preset m

-- A coefficient as a number.
abbrev pub digit : Bool → ℕ
digit true = 1
digit false = 0

-- The number whose binary digits these are, the first the most significant.
unfoldable pub number_of : List Bool → ℕ
number_of [] = 0
number_of (b ∷ bs) = digit b * 2 ^ length bs + number_of bs

-- The presetting polynomial that a start value of sixteen bits stands for: that of its two octets, the higher one first.
abbrev pub preset_of : ℕ → List Bool
preset_of r = bits_of (r / 256) ++ bits_of (r % 256)

-- The check sequence of a list of octets that goes on from a start value, as a number.
unfoldable pub sequence_from : ℕ → List ℕ → ℕ
sequence_from r xs = number_of (remainder (preset_of r) (message xs))

-- The packet check sequence of a list of octets, as a number.
unfoldable pub sequence_of : List ℕ → ℕ
sequence_of xs = number_of (check_sequence (message xs))
