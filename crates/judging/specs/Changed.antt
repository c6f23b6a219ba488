-- Document 02, wish 7: "in any accepted record, any change of a non-time octet of a TM line makes it non-conforming".
use Rattle.std.specs.Prelude.{◌≡◌, List, [], ◌∷◌, ◌++◌, ℕ, ◌+◌, length}
use Rattle.lines.specs.Lines.{lines_of}
use Rattle.differing.specs.Differing.{differs_text}
use Rattle.conforming.specs.Groups.{Line, Filled, groups_of}
use Rattle.conforming.specs.Conforms.{Gives}
use Rattle.conforming.specs.Alike.{packets_of, reports_of, GroupsAlike}
use Rattle.judging.specs.Output.{told, judge_output}

-- Two records are the same but for one TM line, which has a number: the line before it is not empty, so it is no TC.
pub record OneLine (a b : List ℕ) (number : ℕ) (old new : Line) : Type 0 where
  pub earlier : List Line
  pub before : Line
  pub later : List Line
  pub stands : Filled before
  pub was : Filled old
  pub is : Filled new
  pub one : lines_of a ≡ (earlier ++ (before ∷ [])) ++ (old ∷ later)
  pub other : lines_of b ≡ (earlier ++ (before ∷ [])) ++ (new ∷ later)
  pub number_is : number ≡ length earlier + 2

-- What is printed of the changed record: it differs at that line, from the frame that the line before the change gives.
pub record ToldAt (file text : List ℕ) (number : ℕ) (old new : Line) : Type 0 where
  pub tc : ℕ
  pub due : List ℕ
  pub gives : Gives due old
  pub printed : judge_output file text ≡ differs_text (told number) (told tc) due new

-- How many lines are not empty: of a text of packets, how many packets.
unfoldable pub filled_in : List Line → ℕ
filled_in [] = 0
filled_in ([] ∷ rest) = filled_in rest
filled_in ((c ∷ line) ∷ rest) = filled_in rest + 1

-- Two records have the same TCs, and the same TM lines but for their times.
abbrev pub SamePackets : List ℕ → List ℕ → Type 0
SamePackets a b = packets_of (groups_of (lines_of a)) ≡ packets_of (groups_of (lines_of b))

abbrev pub SameFrames : List ℕ → List ℕ → Type 0
SameFrames a b = GroupsAlike (reports_of (groups_of (lines_of a))) (reports_of (groups_of (lines_of b)))
