-- Document 02, wish 3: the ISO checksum of ECSS-E-70-41A's annex. Two sums modulo 255 start at all ones; for each octet C0 += octet, C1 += C0; then CK1 = -(C0 + C1), CK2 = C1, and a 0 is sent as FF.
use Rattle.std.specs.Prelude.{cond, List, ℕ, ◌+◌, ◌*◌, ◌-◌, ◌%◌, eqb}
use Rattle.laws.specs.Fold.{reached}
use Rattle.iso.specs.declared.Sums.{Sums}

-- What both sums are taken modulo.
abbrev pub modulus : ℕ
modulus = 255

-- Both sums before the first octet: all ones.
abbrev pub at_start : Sums
at_start = record { c0 = 0xff; c1 = 0xff }

-- Both sums after an octet: it is added to C0, and that to C1.
unfoldable pub added : Sums → ℕ → Sums
added s x = record { c0 = (s.c0 + x) % modulus; c1 = (s.c1 + (s.c0 + x) % modulus) % modulus }

-- Both sums after some octets in turn.
unfoldable pub sums_of : List ℕ → Sums
sums_of xs = reached added at_start xs

-- Minus a number, modulo 255.
abbrev pub minus : ℕ → ℕ
minus n = (modulus - n % modulus) % modulus

-- A 0 is sent as FF.
abbrev pub sent : ℕ → ℕ
sent sum = cond (eqb sum 0) 0xff sum

-- The two octets that are sent.
abbrev pub ck1 : Sums → ℕ
ck1 s = sent (minus (s.c0 + s.c1))

abbrev pub ck2 : Sums → ℕ
ck2 s = sent (s.c1 % modulus)

-- The checksum of some octets: CK1, and behind it CK2.
unfoldable pub iso_of : List ℕ → ℕ
iso_of xs = ck1 (sums_of xs) * 256 + ck2 (sums_of xs)
