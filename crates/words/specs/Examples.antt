-- Words that a reader could stumble over, by computation.
use Rattle.std.specs.Prelude.{◌≡◌, refl, [], ◌∷◌}
use Rattle.words.specs.Ascii.{ascii}
use Rattle.words.specs.Words.{words_from, words_of}

-- A comment ends a word.
pub comment_in_a_word : words_of (ascii "store 128#octets") ≡ ascii "store" ∷ ascii "128" ∷ []
unfolding words_from
comment_in_a_word = refl

-- A comment alone has no words, nor have blanks alone.
pub comment_alone : words_of (ascii "  # area 1") ≡ []
unfolding words_from
comment_alone = refl

pub blanks_alone : words_of (0x20 ∷ 0x09 ∷ 0x0D ∷ []) ≡ []
unfolding words_from
blanks_alone = refl

-- Tabs and carriage returns separate words, as many as there are: tab, `a`, tab, space, `b`, return, `c`, return.
pub tabs_and_returns : words_of (0x09 ∷ 0x61 ∷ 0x09 ∷ 0x20 ∷ 0x62 ∷ 0x0D ∷ 0x63 ∷ 0x0D ∷ []) ≡ ascii "a" ∷ ascii "b" ∷ ascii "c" ∷ []
unfolding words_from
tabs_and_returns = refl

-- NUL, the vertical tab, the form feed and the octet FF are characters of words, and so is a newline that a line should not have.
pub no_other_blanks : words_of (0x00 ∷ 0x0B ∷ 0x0C ∷ 0x20 ∷ 0xFF ∷ 0x0A ∷ []) ≡ (0x00 ∷ 0x0B ∷ 0x0C ∷ []) ∷ (0xFF ∷ 0x0A ∷ []) ∷ []
unfolding words_from
no_other_blanks = refl
