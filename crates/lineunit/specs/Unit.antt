-- Document 01, "The line program": its profile and its start.
use Rattle.std.specs.Prelude.{List, [], ◌∷◌, ℕ, replicate}
use Rattle.map.specs.declared.Area.{Area}
use Rattle.map.specs.declared.Profile.{Profile}
use Rattle.map.specs.Made.{all_flags, area_of, profile_with}
use Rattle.counts.specs.Counts.{no_counts}
use Rattle.decide.specs.declared.State.{State}
use Rattle.decide.specs.Table.{out_least}

-- The one area: ID 1, start 1000 hex, 64 words, store word 0, all rights.
abbrev pub line_area : Area
line_area = area_of 1 0x1000 64 0

-- PID 5, all flags, that area.
abbrev pub line_profile : Profile
line_profile = profile_with 5 all_flags (line_area ∷ [])

-- Counts of 0.
abbrev pub line_state : State
line_state = record { counts = no_counts }

-- 128 zero octets.
abbrev pub line_store : List ℕ
line_store = replicate 128 0

-- A buffer of 4,096 zero octets for the frames.
abbrev pub line_out : List ℕ
line_out = replicate out_least 0

-- Time is zero throughout.
abbrev pub line_time : List ℕ
line_time = replicate 6 0
