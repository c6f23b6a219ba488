-- docs/UNITS.md, "A unit that is not sound": the words for a clause of soundness that fails.
use Rattle.std.specs.Prelude.{List, [], ◌∷◌, ◌++◌, ℕ, Result, Ok, Err}
use Rattle.lines.specs.Lines.{newline}
use Rattle.words.specs.Ascii.{ascii}
use Rattle.numerals.specs.Numbers.{decimal_of}
use Rattle.clauses.specs.declared.Clause.{Clause}
use Rattle.clauses.specs.declared.Clause.TheVariants.{OddStore, LongStore, Pid, Count, NoWords, PastTop, PastStore, SameId, Shared}

-- What is said of one area, and of two.
abbrev pub of_area : ℕ → List ℕ → List ℕ
of_area i words = ascii "area " ++ (decimal_of i ++ words)

abbrev pub of_areas : ℕ → ℕ → List ℕ → List ℕ
of_areas i j words = ascii "areas " ++ (decimal_of i ++ (ascii " and " ++ (decimal_of j ++ words)))

-- The clause of soundness that fails.
abbrev pub clause_words : Clause → List ℕ
clause_words OddStore = ascii "the store has an odd number of octets"
clause_words LongStore = ascii "the store has more than 65536 octets"
clause_words Pid = ascii "the PID is above 127"
clause_words Count = ascii "there are more than 8 areas"
clause_words (NoWords i) = of_area i (ascii " has no words")
clause_words (PastTop i) = of_area i (ascii " ends above address FFFFFFFF")
clause_words (PastStore i) = of_area i (ascii " ends past the store")
clause_words (SameId i j) = of_areas i j (ascii " have the same memory ID")
clause_words (Shared i j octet) = of_areas i j (ascii " share octet " ++ decimal_of octet)

unfoldable pub clause_line : Clause → List ℕ
clause_line c = clause_words c ++ newline ∷ []

-- The same line where none may fail: then nothing stands in it.
abbrev pub clause_told : Result Unit Clause → List ℕ
clause_told (Ok _) = newline ∷ []
clause_told (Err c) = clause_line c
