-- Frames one a line are lines: those of their texts.
-- Assumes nothing.
use mathlib.Core.Path.{◌≡◌, refl, sym, ap, ◌∙◌}
use mathlib.Core.Bool.{true, false, false≢true}
use mathlib.Core.List.{List, [], ◌∷◌, ◌++◌, append_assoc, map}
use Prim.Native.Nat.{ℕ}
use lib.Dec.{eqb}
use borrow.Author.Tests.{eqb-true}
use Rattle.laws.specs.Fold.{joined}
use Rattle.laws.proofs.Tests.{by-test, both}
use Rattle.characters.specs.Digits.{value_of, is_digit_of, text_of, all_digits_of}
use Rattle.characters.proofs.Back.{text_digits}
use Rattle.lines.specs.Lines.{newline, lines_of}
use Rattle.saying.specs.Text.{line_of}
use Rattle.packetline.specs.Packet.{lines_of as frames_text}

-- A digit is no newline.
digit_other : (c : ℕ) → is_digit_of c ≡ true → eqb c newline ≡ false
unfolding value_of
digit_other c d =
    by-test (eqb c newline)
    (λ t. let e : c ≡ newline = eqb-true c newline t in absurd (false≢true (ap is_digit_of (sym e) ∙ d)))
    (λ f. f)

-- A line of digits and its newline before some text.
pub lines_ended : (w rest : List ℕ) → all_digits_of w ≡ true → lines_of (w ++ (newline ∷ rest)) ≡ w ∷ lines_of rest
unfolding lines_of all_digits_of
lines_ended [] rest d = refl
lines_ended (c ∷ w) rest d =
    let parts = both (is_digit_of c) (all_digits_of w) d in
    rw (digit_other c parts.0, lines_ended w rest parts.1) refl

line_first : (octets rest : List ℕ) → lines_of (line_of octets ++ rest) ≡ text_of octets ∷ lines_of rest
line_first octets rest =
    ap lines_of (append_assoc (text_of octets) (newline ∷ []) rest) ∙ lines_ended (text_of octets) rest (text_digits octets)

-- Frames one a line before some text.
lines_frames : (frames : List (List ℕ)) (rest : List ℕ) → lines_of (frames_text frames ++ rest) ≡ map text_of frames ++ lines_of rest
unfolding joined
lines_frames [] rest = refl
lines_frames (f ∷ frames) rest =
    ap lines_of (append_assoc (line_of f) (frames_text frames) rest)
    ∙ line_first f (frames_text frames ++ rest)
    ∙ ap (λ (ls : List (List ℕ)). text_of f ∷ ls) (lines_frames frames rest)

-- The lines of a packet, its frames and an empty line before some text.
pub lines_record : (packet : List ℕ) (frames : List (List ℕ)) (rest : List ℕ)
    → lines_of ((line_of packet ++ (frames_text frames ++ newline ∷ [])) ++ rest) ≡ text_of packet ∷ (map text_of frames ++ ([] ∷ lines_of rest))
unfolding lines_of
lines_record packet frames rest =
    ap lines_of (append_assoc (line_of packet) (frames_text frames ++ newline ∷ []) rest)
    ∙ line_first packet ((frames_text frames ++ newline ∷ []) ++ rest)
    ∙ ap (λ (s : List ℕ). text_of packet ∷ lines_of s) (append_assoc (frames_text frames) (newline ∷ []) rest)
    ∙ ap (λ (ls : List (List ℕ)). text_of packet ∷ ls) (lines_frames frames (newline ∷ rest))
