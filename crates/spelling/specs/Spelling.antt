-- A line that spells a frame: its digits in upper case, as `pack` prints them, with any digits for its time.
use Rattle.std.specs.Prelude.{Bool, true, false, ◌&&◌, List, [], ◌∷◌, ℕ, ◌/◌, ◌%◌, length, take, drop, eqb, leb, ltb}
use Rattle.characters.specs.Digits.{digit_of, all_digits_of}
use Rattle.tm.specs.Frame.{time_first, time_end}
use Rattle.packetline.specs.Packet.{line_most}

-- An octet is spelled by two characters: its two digits, in upper case.
abbrev pub spelled : ℕ → ℕ → ℕ → Bool
spelled x high low = ltb x 256 && (eqb high (digit_of (x / 16)) && eqb low (digit_of x))

-- Octets are spelled by the characters of a text, two for each.
unfoldable pub spelled_all : List ℕ → List ℕ → Bool
spelled_all [] text = true
spelled_all (x ∷ octets) [] = false
spelled_all (x ∷ octets) (high ∷ []) = false
spelled_all (x ∷ octets) (high ∷ low ∷ text) = spelled x high low && spelled_all octets text

-- A line has the digits of a frame that holds a time, and no more.
unfoldable pub sized_for : List ℕ → List ℕ → Bool
sized_for frame line =
    leb time_end (length frame) && (leb (length line) line_most && (eqb (length line % 2) 0 && eqb (length line / 2) (length frame)))

-- It has the frame's digits before the time and behind it, and digits in its place.
unfoldable pub spelled_apart : List ℕ → List ℕ → Bool
spelled_apart frame line =
    spelled_all (take time_first frame) (take 12 line)
    && (all_digits_of (take 12 (drop 12 line)) && spelled_all (drop time_end frame) (drop 24 line))

-- A line spells a frame.
unfoldable pub spells_frame : List ℕ → List ℕ → Bool
spells_frame frame line = sized_for frame line && spelled_apart frame line
