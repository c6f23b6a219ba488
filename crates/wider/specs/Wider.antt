-- Document 01, "Profile and memory": when one profile is wider than another.
use Rattle.std.specs.Prelude.{Bool, false, not, ◌&&◌, ◌||◌, List, [], ◌∷◌, ℕ, ◌+◌, ◌-◌, leb, eqb}
use Rattle.map.specs.declared.Rights.{Rights}
use Rattle.map.specs.declared.Flags.{Flags}
use Rattle.map.specs.declared.Area.{Area}
use Rattle.map.specs.declared.Profile.{Profile}
use Rattle.map.specs.Place.{used}
use Rattle.laws.specs.Each.{every}
use Rattle.map.specs.Sound.{sound}

-- What is set in the narrower is set in the wider.
abbrev pub keeps : Bool → Bool → Bool
keeps wide narrow = wide || not narrow

-- Each right of the narrower is one of the wider.
unfoldable pub keeps_rights : Rights → Rights → Bool
keeps_rights wide narrow =
    keeps wide.load narrow.load
    && keeps wide.dump narrow.dump
    && keeps wide.check narrow.check

-- An area has at least the addresses of another, and the same store word for each of those.
unfoldable pub keeps_words : Area → Area → Bool
keeps_words wide narrow =
    leb wide.start narrow.start
    && leb (narrow.start + narrow.length) (wide.start + wide.length)
    && eqb (wide.first + (narrow.start - wide.start)) narrow.first

-- An area of the wider serves for one of the narrower: the same memory ID, at least the same rights, at least the same addresses, and the same store word for each of those.
unfoldable pub covers : Area → Area → Bool
covers wide narrow =
    eqb wide.id narrow.id
    && keeps_rights wide.rights narrow.rights
    && keeps_words wide narrow

-- Some area of a list covers a given one.
unfoldable pub covered : List Area → Area → Bool
covered [] narrow = false
covered (a ∷ rest) narrow = covers a narrow || covered rest narrow

-- Each service flag that is set in the narrower is set in the wider.
unfoldable pub keeps_flags : Flags → Flags → Bool
keeps_flags wide narrow =
    keeps wide.load narrow.load
    && keeps wide.dump narrow.dump
    && keeps wide.check narrow.check
    && keeps wide.connection narrow.connection

-- A profile is wider than another over a store of that many octets.
unfoldable pub wider : Profile → Profile → ℕ → Bool
wider wide narrow octets =
    sound wide octets
    && sound narrow octets
    && eqb wide.pid narrow.pid
    && keeps_flags wide.flags narrow.flags
    && every (covered (used wide)) (used narrow)
