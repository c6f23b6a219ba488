-- Programs that answer whole lines, and what a caller is promised of a program that is fed the input at the front of its buffer.
use Rattle.std.specs.Prelude.{◌≡◌, Bool, cond, List, [], ℕ, ◌+◌, min, length, take, drop, leb}
use Rattle.std.specs.Borrow.{Bor, MutBor}
use denote.Triple.Both.{Both}
use Rattle.octets.specs.Copy.{laid}
use Rattle.lines.specs.declared.End.{End}
use Rattle.lines.specs.declared.End.TheVariants.{On, Newline, Last}
use Rattle.lines.specs.declared.Walk.{Walk}
use Rattle.lines.specs.declared.Progress.{Progress}
use Rattle.lines.specs.Lines.{lines_of}
use Rattle.laws.specs.Fold.{answers, joined}
use Rattle.lines.specs.Turn.{Program, Turn, turn_of, last_says, last_becomes}

-- A program that answers lines: how long a line is at most, how long an answer is at most, what is said to a line and what the machine becomes; and the same two for a line that is too long.
pub record LineProgram (M : Type 0) : Type 0 where
  pub bound : ℕ
  pub most : ℕ
  pub says : M → List ℕ → List ℕ
  pub becomes : M → List ℕ → M
  pub says_long : M → List ℕ
  pub becomes_long : M → M

module _ {M : Type 0} (p : LineProgram M) where
  -- What is said to a line.
  abbrev pub line_says : M → List ℕ → List ℕ
  line_says m line = cond (leb (length line) p.bound) (p.says m line) (p.says_long m)

  -- What the machine becomes.
  abbrev pub line_becomes : M → List ℕ → M
  line_becomes m line = cond (leb (length line) p.bound) (p.becomes m line) (p.becomes_long m)

  -- The whole output as a function of the whole input.
  unfoldable pub output_of : M → List ℕ → List ℕ
  output_of m input = joined (answers line_says line_becomes m (lines_of input))

  -- What is said to a piece: a line that is one piece is answered, and a longer one at its end.
  abbrev pub piece_says : Bool → M → List ℕ → End → List ℕ
  piece_says begins m text On = []
  piece_says begins m text Newline = cond begins (p.says m text) (p.says_long m)
  piece_says begins m text Last = cond begins (p.says m text) (p.says_long m)

  -- What the machine becomes.
  abbrev pub piece_becomes : Bool → M → List ℕ → End → M
  piece_becomes begins m text On = m
  piece_becomes begins m text Newline = cond begins (p.becomes m text) (p.becomes_long m)
  piece_becomes begins m text Last = cond begins (p.becomes m text) (p.becomes_long m)

  -- The same program over pieces.
  abbrev pub over_pieces : Program M
  over_pieces = record {
    bound = p.bound;
    most = p.most;
    says = λ m x. piece_says x.begins m x.text x.end;
    becomes = λ m x. piece_becomes x.begins m x.text x.end;
  }

-- A slice that a function is lent: as it stands when the function is called, and when it returns.
abbrev pub Lent : Type 0
Lent = Both (MutBor (List ℕ)) (MutBor (List ℕ))

-- What a program's walk over the whole pieces of an input promises: what is left stands from a place on, and what is said at the front of the text.
pub record Walked {M : Type 0} (t : Turn M) (input text : List ℕ) (w : Walk) (after : M) (text' : List ℕ) : Type 0 where
  pub left_is : drop w.from input ≡ t.left
  pub begins_is : w.begins ≡ t.begins
  pub open_is : w.«open» ≡ t.«open»
  pub at_is : w.at ≡ length t.said
  pub after_is : after ≡ t.after
  pub text_is : text' ≡ laid text 0 t.said

-- What a caller is promised of a program that was fed the input at the front of its buffer: how much is left there, and what is said at the front of the text; every part by an equation.
pub record Feeds {M : Type 0} (t : Turn M) (input text : List ℕ) (p : Progress) (after : M) (input' text' : List ℕ) : Type 0 where
  pub have_is : p.have ≡ length t.left
  pub begins_is : p.begins ≡ t.begins
  pub open_is : p.«open» ≡ t.«open»
  pub at_is : p.at ≡ length t.said
  pub after_is : after ≡ t.after
  pub text_is : text' ≡ laid text 0 t.said
  pub input_is : input' ≡ laid input 0 t.left

-- What a caller is promised of a program at the end of the input: what is said of what is left stands at the front of the text, and the place behind it is answered; one past the text's end says that some of it found no room.
pub record Finishes {M : Type 0} (p : Program M) (m : M) (begins : Bool) (rest text : List ℕ) (at : ℕ) (after : M) (text' : List ℕ) : Type 0 where
  pub at_is : at ≡ min (length (last_says p m begins rest)) (length text + 1)
  pub after_is : after ≡ last_becomes p m begins rest
  pub text_is : text' ≡ laid text 0 (last_says p m begins rest)

-- The contracts of a program's functions, over what they are lent.
module _ {M : Type 0} (p : Program M) (m : M) where
  -- Of its walk over an input.
  abbrev pub WalkedBy : Bool → Bor (List ℕ) → Lent → Walk → M → Type 0
  WalkedBy begins input text w after =
      Walked (turn_of p (length text.entry.now) m begins input.now) input.now text.entry.now w after text.exit.now

  -- Of its feed, from how far it has come.
  abbrev pub FedBy : Progress → Lent → Lent → Progress → M → Type 0
  FedBy before input text r after =
      Feeds (turn_of p (length text.entry.now) m before.begins (take before.have input.entry.now)) input.entry.now text.entry.now r after input.exit.now text.exit.now

  -- Of its finish, from how far it has come.
  abbrev pub FinishedBy : Progress → Bor (List ℕ) → Lent → ℕ → M → Type 0
  FinishedBy before input text at after =
      Finishes p m before.begins (take before.have input.now) text.entry.now at after text.exit.now
