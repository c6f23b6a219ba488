-- Laws of packet lines.
-- Assumes nothing.
use mathlib.Core.Path.{◌≡◌, refl, sym, ap, ◌∙◌}
use mathlib.Core.Bool.{Bool, true, false, ◌&&◌}
use mathlib.Core.List.{List}
use Prim.Native.Nat.{ℕ, ◌%◌, ◌≤◌, ◌<◌}
use lib.ListN.{length}
use lib.Dec.{leb, eqb}
use borrow.Author.Tests.{leb-true, eqb-true, lt-leb, le-leb, eq-eqb}
use Rattle.laws.proofs.Tests.{both}
use Rattle.characters.specs.Digits.{all_digits_of}
use Rattle.packetline.specs.Packet.{line_most, is_packet}

and_false : (b : Bool) → b && false ≡ false
and_false true = refl
and_false false = refl

and_true : (b : Bool) → b && true ≡ b
and_true true = refl
and_true false = refl

pub packet_long : (s : List ℕ) → line_most < length s → false ≡ is_packet s
unfolding is_packet
packet_long s h = sym (ap (λ (b : Bool). all_digits_of s && eqb (length s % 2) 0 && b) (lt-leb (length s) line_most h) ∙ and_false (all_digits_of s && eqb (length s % 2) 0))

pub packet_even : (s : List ℕ) → length s ≤ line_most → length s % 2 ≡ 0 → all_digits_of s ≡ is_packet s
unfolding is_packet
packet_even s h even = sym (rw (eq-eqb (length s % 2) 0 even, le-leb (length s) line_most h) (and_true (all_digits_of s && true) ∙ and_true (all_digits_of s)))

pub packet_facts : (s : List ℕ) → is_packet s ≡ true → (all_digits_of s ≡ true) × (length s % 2 ≡ 0) × (length s ≤ line_most)
unfolding is_packet
packet_facts s e =
    let s2 = both (all_digits_of s && eqb (length s % 2) 0) (leb (length s) line_most) e in
    let s1 = both (all_digits_of s) (eqb (length s % 2) 0) s2.0 in
    (s1.0, eqb-true (length s % 2) 0 s1.1, leb-true (length s) line_most s2.1)
