-- docs/UNITS.md, "Lines, words and numbers": the words of a line.
use Rattle.std.specs.Prelude.{Bool, true, false, cond, ◌&&◌, ◌||◌, List, [], ◌∷◌, ◌++◌, ℕ, suc, ◌+◌, drop, eqb, ltb}
use Rattle.octets.specs.declared.copy.Span.{Span}
use Rattle.octets.specs.Copy.{between}

-- Spaces, tabs and carriage returns separate words, and no other character does.
abbrev pub is_blank : ℕ → Bool
is_blank c = eqb c 0x20 || eqb c 0x09 || eqb c 0x0D

-- What begins a comment: `#`.
abbrev pub hash : ℕ
hash = 0x23

-- The word that some characters are, if there are any.
abbrev pub ended : List ℕ → List (List ℕ)
ended [] = []
ended (c ∷ word) = (c ∷ word) ∷ []

-- The words of a text behind the characters of an open one: `#` and what follows it, in a word too, is passed over.
unfoldable pub words_from : List ℕ → List ℕ → List (List ℕ)
words_from word [] = ended word
words_from word (c ∷ rest) =
    cond (eqb c hash) (ended word)
    (cond (is_blank c) (ended word ++ words_from [] rest)
    (words_from (word ++ c ∷ []) rest))

-- The words of a line.
abbrev pub words_of : List ℕ → List (List ℕ)
words_of line = words_from [] line

-- How many blanks stand at the front of a text.
unfoldable pub blanks_in : List ℕ → ℕ
blanks_in [] = 0
blanks_in (c ∷ rest) = cond (is_blank c) (suc (blanks_in rest)) 0

-- How many characters at the front of a text are a word's.
unfoldable pub plain_in : List ℕ → ℕ
plain_in [] = 0
plain_in (c ∷ rest) = cond (eqb c hash || is_blank c) 0 (suc (plain_in rest))

-- The place of the next word of a line from a place on; it ends where it begins if there is none.
abbrev pub span_from : List ℕ → ℕ → Span
span_from line from = record { from = from; to = from + plain_in (drop from line) }

unfoldable pub span_of : List ℕ → ℕ → Span
span_of line at = span_from line (at + blanks_in (drop at line))

-- The words from a place on, by the place of the next one.
abbrev pub words_at : List ℕ → Span → List (List ℕ)
words_at line p = cond (ltb p.from p.to) (between p.from p.to line ∷ words_of (drop p.to line)) []

-- Whether two texts are the same.
unfoldable pub same_text : List ℕ → List ℕ → Bool
same_text [] [] = true
same_text [] (d ∷ b) = false
same_text (c ∷ a) [] = false
same_text (c ∷ a) (d ∷ b) = eqb c d && same_text a b
