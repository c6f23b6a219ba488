-- How long what is told is at most.
-- Assumes nothing.
use mathlib.Core.List.{[], ◌∷◌, ◌++◌}
use Prim.Native.Nat.{ℕ, ◌≤◌}
use native.Mathlib.Omega.{arith}
use lib.ListN.{length, length-append}
use Rattle.characters.specs.Digits.{text_of}
use Rattle.characters.proofs.Digits.{text_length}
use Rattle.lines.specs.Lines.{newline}
use Rattle.words.specs.Ascii.{ascii}
use Rattle.numerals.specs.Numbers.{decimal_of}
use Rattle.numerals.proofs.Decimals.{decimal_most}
use Rattle.packline.specs.declared.Halt.{Halt}
use Rattle.packline.specs.declared.Halt.TheVariants.{Unit, Long, Character, Odd, Differs, NoPacket}
use Rattle.telling.specs.Telling.{halt_words, halt_line}

character_most : (place octet : ℕ) → length (ascii "character " ++ (decimal_of place ++ (ascii " is " ++ text_of (octet ∷ [])))) ≤ 36
character_most place octet =
    omega (arith, length-append (decimal_of place) (ascii " is " ++ text_of (octet ∷ [])), decimal_most place, text_length (octet ∷ []))

words_most : (h : Halt) → length (halt_words h) ≤ 36
words_most Long = omega arith
words_most (Character place octet) = character_most place octet
words_most Odd = omega arith
words_most (Unit fault) = omega arith
words_most Differs = omega arith
words_most NoPacket = omega arith

-- Why a line is refused takes at most 37 characters, the newline among them.
pub halt_line_most : (h : Halt) → length (halt_line h) ≤ 37
unfolding halt_line
halt_line_most h = omega (arith, length-append (halt_words h) (newline ∷ []), words_most h)
