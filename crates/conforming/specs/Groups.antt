-- Document 02, wish 7: a record is lines of TC, each followed by that unit's TM lines and an empty line.
use Rattle.std.specs.Prelude.{List, [], ◌∷◌, ℕ}

-- A line, and a group: the lines up to an empty one. Of a group that has lines the first is the TC, and the rest are its TM lines; one without lines is an empty line that is passed over.
abbrev pub Line : Type 0
Line = List ℕ

abbrev pub Group : Type 0
Group = List Line

-- A line that is not empty.
abbrev pub Filled : Line → Type 0
Filled [] = ⊥
Filled (c ∷ line) = Unit

-- A line before some groups: an empty one ends a group of its own, and any other begins the first.
abbrev pub ahead : Line → List Group → List Group
ahead [] groups = [] ∷ groups
ahead (c ∷ line) [] = ((c ∷ line) ∷ []) ∷ []
ahead (c ∷ line) (group ∷ rest) = ((c ∷ line) ∷ group) ∷ rest

-- The groups of a record's lines: the end of the input serves as the empty line that ends the last.
unfoldable pub groups_of : List Line → List Group
groups_of [] = [] ∷ []
groups_of (line ∷ rest) = ahead line (groups_of rest)

-- The first of some groups, and those behind it.
unfoldable pub first_group : List Group → Group
first_group [] = []
first_group (group ∷ rest) = group

unfoldable pub other_groups : List Group → List Group
other_groups [] = []
other_groups (group ∷ rest) = rest
