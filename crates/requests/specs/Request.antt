-- What a packet asks for, what a profile offers of it, and the area and the blocks that it names.
use Rattle.std.specs.Prelude.{Bool, false, cond, is_some, ◌||◌, List, map, ℕ, eqb, Some, None, Option}
use Rattle.laws.specs.First.{first_wrong}
use Rattle.map.specs.declared.Rights.{Rights}
use Rattle.map.specs.declared.Flags.{Flags}
use Rattle.map.specs.declared.Area.{Area}
use Rattle.map.specs.declared.Profile.{Profile}
use Rattle.map.specs.Place.{word_octets, dump_words, used, find_in, inside}
use Rattle.blocks.specs.declared.Block.{Block}
use Rattle.blocks.specs.Blocks.{memory_id}
use Rattle.requests.specs.declared.Action.{Action}
use Rattle.requests.specs.declared.Action.TheVariants.{Load, Dump, Check}
use Rattle.requests.specs.declared.Request.TheVariants.{Memory, Connection}
use Rattle.requests.specs.declared.Request.{Request}

-- The types of the services known.
abbrev pub memory_type : ℕ
memory_type = 6

abbrev pub connection_type : ℕ
connection_type = 17

-- The type's flags of a profile: is any set?
unfoldable pub serves : Flags → ℕ → Bool
serves f kind = cond (eqb kind memory_type) (f.load || f.dump || f.check) (cond (eqb kind connection_type) f.connection false)

-- What a subtype of service 6 asks for: (6,2), (6,5) and (6,9).
unfoldable pub memory_asked : ℕ → Option Request
memory_asked subtype =
    cond (eqb subtype 2) (Some (Memory Load)) (cond (eqb subtype 5) (Some (Memory Dump)) (cond (eqb subtype 9) (Some (Memory Check)) None))

-- What a type and subtype ask for.
unfoldable pub asked_for : ℕ → ℕ → Option Request
asked_for kind subtype =
    cond (eqb kind memory_type) (memory_asked subtype)
    (cond (eqb kind connection_type) (cond (eqb subtype 1) (Some Connection) None) None)

-- The flag of an action in a profile, and the right in an area.
abbrev pub flag_for : Flags → Action → Bool
flag_for f Load = f.load
flag_for f Dump = f.dump
flag_for f Check = f.check

abbrev pub right_for : Rights → Action → Bool
right_for r Load = r.load
right_for r Dump = r.dump
right_for r Check = r.check

-- The request is known, and its flag is on.
abbrev pub offers : Flags → Option Request → Bool
offers f (Some (Memory action)) = flag_for f action
offers f (Some Connection) = f.connection
offers f None = false

-- How many octets of the application data a word of a block is: a load carries its words, a dump and a check do not.
abbrev pub carried_by : Action → ℕ
carried_by Load = word_octets
carried_by Dump = 0
carried_by Check = 0

-- The most words that a block may be long: for a dump 240; else as many as its field can say.
abbrev pub most_words : Action → ℕ
most_words Load = 65535
most_words Dump = dump_words
most_words Check = 65535

-- The area that application data names by its memory ID.
abbrev pub area_named : Profile → List ℕ → Option Area
area_named p application = find_in (memory_id application) (used p)

abbrev pub is_found : Option Area → Bool
is_found found = is_some found

-- A block lies wholly inside an area.
abbrev pub inside_of : Area → Block → Bool
inside_of a b = inside a b.start b.words

-- The first block, from 1, that is not wholly inside an area; 0 where all are.
unfoldable pub outside_of : Area → List Block → ℕ
outside_of a blocks = first_wrong (map (inside_of a) blocks)
