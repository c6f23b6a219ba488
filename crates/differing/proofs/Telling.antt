-- What is told of a line that differs, case by case: whether a frame was due, and whether a line was found.
-- Assumes nothing.
use mathlib.Core.Path.{◌≡◌, refl}
use mathlib.Core.List.{List, [], ◌∷◌, ◌++◌}
use Prim.Native.Nat.{ℕ, ◌+◌, ◌*◌, ◌≤◌, ◌<◌}
use native.Mathlib.Omega.{arith}
use lib.ListN.{length, take, drop, length-append, length-take, length-drop}
use lib.Dec.{leb}
use Rattle.laws.proofs.Tests.{by-test}
use borrow.Author.Tests.{le-leb, lt-leb}
use Rattle.characters.specs.Digits.{text_of, upper_text, octets_in}
use Rattle.characters.proofs.Digits.{text_length}
use Rattle.characters.proofs.Capitals.{upper_length}
use Rattle.lines.specs.Lines.{newline}
use Rattle.words.specs.Ascii.{ascii}
use Rattle.numerals.specs.Numbers.{decimal_of}
use Rattle.numerals.proofs.Decimals.{decimal_most}
use Rattle.beside.specs.Beside.{parting_of}
use Rattle.differing.specs.Differing.{number_line, text_line, due_text, found_text, octet_line, differs_text}

pub due_nothing : (due line : List ℕ) → length due ≡ 0 → ascii "nothing" ≡ due_text due line
due_nothing [] line e = refl
due_nothing (x ∷ due) line e = absurd (omega arith)

pub due-timed : (due line : List ℕ) → (length due ≡ 0 → ⊥) → 24 ≤ length line
    → text_of (take 6 due) ++ (upper_text (take 12 (drop 12 line)) ++ text_of (drop 12 due)) ≡ due_text due line
due-timed [] line n h = absurd (n refl)
due-timed (x ∷ due) line n h = rw (le-leb 24 (length line) h) refl

pub due_alone : (due line : List ℕ) → (length due ≡ 0 → ⊥) → length line < 24 → text_of due ≡ due_text due line
due_alone [] line n h = absurd (n refl)
due_alone (x ∷ due) line n h = rw (lt-leb 24 (length line) h) refl

pub found_nothing : (line : List ℕ) → length line ≡ 0 → ascii "nothing" ≡ found_text line
found_nothing [] e = refl
found_nothing (c ∷ line) e = absurd (omega arith)

pub found_line : (line : List ℕ) → (length line ≡ 0 → ⊥) → upper_text line ≡ found_text line
found_line [] n = absurd (n refl)
found_line (c ∷ line) n = refl

pub octet_no_frame : (due line : List ℕ) → length due ≡ 0 → [] ≡ octet_line due line
octet_no_frame [] line e = refl
octet_no_frame (x ∷ due) line e = absurd (omega arith)

pub octet_no_line : (due line : List ℕ) → length line ≡ 0 → [] ≡ octet_line due line
octet_no_line [] line e = refl
octet_no_line (x ∷ due) [] e = refl
octet_no_line (x ∷ due) (c ∷ line) e = absurd (omega arith)

pub octet_both : (due line : List ℕ) → (length due ≡ 0 → ⊥) → (length line ≡ 0 → ⊥)
    → number_line (ascii "octet ") (parting_of due (octets_in line)) ≡ octet_line due line
octet_both [] line n k = absurd (n refl)
octet_both (x ∷ due) [] n k = absurd (k refl)
octet_both (x ∷ due) (c ∷ line) n k = refl

-- ---- how long it is at most

number_most : (word : List ℕ) (n : ℕ) → length (number_line word n) ≤ length word + 21
number_most word n = omega (arith, length-append word (decimal_of n ++ newline ∷ []), length-append (decimal_of n) (newline ∷ []), decimal_most n)

text_most : (word text : List ℕ) → length (text_line word text) ≡ length word + length text + 1
text_most word text = omega (arith, length-append word (text ++ newline ∷ []), length-append text (newline ∷ []))

timed_most : (due line : List ℕ) → length (text_of (take 6 due) ++ (upper_text (take 12 (drop 12 line)) ++ text_of (drop 12 due))) ≤ 24 + 2 * length due
timed_most due line =
    omega (
      arith,
      length-append (text_of (take 6 due)) (upper_text (take 12 (drop 12 line)) ++ text_of (drop 12 due)),
      length-append (upper_text (take 12 (drop 12 line))) (text_of (drop 12 due)),
      text_length (take 6 due),
      upper_length (take 12 (drop 12 line)),
      text_length (drop 12 due),
      length-take 6 due,
      length-take 12 (drop 12 line),
      length-drop 12 due,
    )

due_most : (due line : List ℕ) → length (due_text due line) ≤ 24 + 2 * length due
due_most [] line = omega arith
due_most (x ∷ due) line =
    by-test (leb 24 (length line)) (λ t. rw t (timed_most (x ∷ due) line)) (λ e. rw e (omega (arith, text_length (x ∷ due))))

found_most : (line : List ℕ) → length (found_text line) ≤ 7 + length line
found_most [] = omega arith
found_most (c ∷ line) = omega (arith, upper_length (c ∷ line))

octet_most : (due line : List ℕ) → length (octet_line due line) ≤ 27
octet_most [] line = omega arith
octet_most (x ∷ due) [] = omega arith
octet_most (x ∷ due) (c ∷ line) = number_most (ascii "octet ") (parting_of (x ∷ due) (octets_in (c ∷ line)))

-- What is told of a line takes two characters for each octet due, those of the line, and at most 160 more.
pub differs_most : (n k : ℕ) (due line : List ℕ) → length (differs_text n k due line) ≤ 2 * length due + length line + 160
unfolding differs_text
differs_most n k due line =
    let both : List ℕ = text_line (ascii "due ") (due_text due line) ++ text_line (ascii "found ") (found_text line) in
    omega (
      arith,
      length-append (number_line (ascii "differs ") n) (number_line (ascii "packet ") k ++ (both ++ octet_line due line)),
      length-append (number_line (ascii "packet ") k) (both ++ octet_line due line),
      length-append both (octet_line due line),
      length-append (text_line (ascii "due ") (due_text due line)) (text_line (ascii "found ") (found_text line)),
      number_most (ascii "differs ") n,
      number_most (ascii "packet ") k,
      text_most (ascii "due ") (due_text due line),
      text_most (ascii "found ") (found_text line),
      due_most due line,
      found_most line,
      octet_most due line,
    )
