-- Lines and pieces that a reader could stumble over, by computation over the definitions.
use Rattle.std.specs.Prelude.{◌≡◌, refl, true, false, List, [], ◌∷◌, ℕ}
use Rattle.lines.specs.declared.End.TheVariants.{On, Newline, Last}
use Rattle.lines.specs.Lines.{lines_of}
use Rattle.lines.specs.Pieces.{piece, cut_from, pieces_of}

-- abc, newline, newline, d: a line, an empty line, and a last line without its newline.
abbrev pub example_input : List ℕ
example_input = 0x61 ∷ 0x62 ∷ 0x63 ∷ 0x0A ∷ 0x0A ∷ 0x64 ∷ []

pub lines_example : lines_of example_input ≡ (0x61 ∷ 0x62 ∷ 0x63 ∷ []) ∷ [] ∷ (0x64 ∷ []) ∷ []
unfolding lines_of
lines_example = refl

-- In pieces of at most two characters the first line is two, and of three it is one.
pub pieces_of_two : pieces_of 2 example_input
    ≡ piece true (0x61 ∷ 0x62 ∷ []) On ∷ piece false (0x63 ∷ []) Newline ∷ piece true [] Newline ∷ piece true (0x64 ∷ []) Last ∷ []
unfolding cut_from
pieces_of_two = refl

pub pieces_of_three : pieces_of 3 example_input
    ≡ piece true (0x61 ∷ 0x62 ∷ 0x63 ∷ []) Newline ∷ piece true [] Newline ∷ piece true (0x64 ∷ []) Last ∷ []
unfolding cut_from
pieces_of_three = refl

-- A newline at the end begins no line, and no input has none.
pub newline_last : lines_of (0x61 ∷ 0x0A ∷ []) ≡ (0x61 ∷ []) ∷ []
unfolding lines_of
newline_last = refl

pub no_input : lines_of [] ≡ []
unfolding lines_of
no_input = refl
