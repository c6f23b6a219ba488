-- Document 01, "Profile and memory": which area has a memory ID, whether a block lies wholly inside an area, and where its words stand in the store.
use Rattle.std.specs.Prelude.{◌==◌, Bool, ◌&&◌, List, ◌⊎◌, ℕ, ◌+◌, ◌-◌, ◌*◌, ◌≤◌, ◌<◌, take, leb, Option}
use Rattle.std.specs.List.{find}
use Rattle.octets.specs.Copy.{between}
use Rattle.map.specs.declared.Area.{Area}
use Rattle.map.specs.declared.Profile.{Profile}

-- The most areas that a profile has.
abbrev pub areas_most : ℕ
areas_most = 8

-- A word is 2 octets.
unfoldable pub word_octets : ℕ
word_octets = 2

-- The most words of a block of a dump, and the most octets that it carries.
abbrev pub dump_words : ℕ
dump_words = 240

abbrev pub dump_octets : ℕ
dump_octets = 480

-- The areas of a profile; unused places are ignored.
abbrev pub used : Profile → List Area
used p = take p.count p.areas

-- The first of some areas that has a memory ID; in a sound profile it is the only one.
unfoldable pub find_in : ℕ → List Area → Option Area
find_in id areas = find (λ a. a.id == id) areas

-- A block of words from an address on lies wholly inside an area.
unfoldable pub inside : Area → ℕ → ℕ → Bool
inside a start words = leb a.start start && leb (start + words) (a.start + a.length)

-- How many octets a number of an area's words is.
unfoldable pub octets_of : Area → ℕ → ℕ
octets_of a words = words * word_octets

-- The octet of the store at which the word at an address of an area begins.
unfoldable pub octet_at : Area → ℕ → ℕ
octet_at a address = octets_of a (a.first + (address - a.start))

-- The octets in the store of so many words of an area from an address on.
unfoldable pub stored_at : Area → List ℕ → ℕ → ℕ → List ℕ
stored_at a store start words = between (octet_at a start) (octet_at a start + octets_of a words) store

-- An octet of the store lies in no word of an area.
unfoldable pub Off : Area → ℕ → Type 0
Off a k = (k < octets_of a a.first) ⊎ (octets_of a (a.first + a.length) ≤ k)
