-- Worked examples of document 01, "Profile and memory", by computation.
use Rattle.std.specs.Prelude.{true, false, List, [], ◌∷◌, ◌≡◌, refl, ◌-◌, ◌^◌}
use Rattle.map.specs.declared.Area.{Area}
use Rattle.map.specs.declared.Profile.{Profile}
use Rattle.laws.specs.Each.{every}
use Rattle.map.specs.Made.{all_flags, area_of, profile_with}
use Rattle.map.specs.Place.{inside, word_octets, octets_of}
use Rattle.map.specs.Sound.{sound, area_sound, pair_sound, apart, every_pair}

-- A profile with every service and those areas.
abbrev profile_of : List Area → Profile
profile_of areas = profile_with 1 all_flags areas

-- P8: the area has memory ID 1, starts at 1000 hex and is 64 words long, from store word 0.
abbrev pub p8 : Area
p8 = area_of 1 0x1000 64 0

pub p8_last_word : inside p8 0x103F 1 ≡ true
unfolding inside
p8_last_word = refl

pub p8_one_too_long : inside p8 0x103F 2 ≡ false
unfolding inside
p8_one_too_long = refl

pub p8_past_the_end : inside p8 0x1040 1 ≡ false
unfolding inside
p8_past_the_end = refl

pub p8_before_the_start : inside p8 0x0FFF 1 ≡ false
unfolding inside
p8_before_the_start = refl

pub p8_last_address : inside p8 0xFFFF_FFFF 1 ≡ false
unfolding inside
p8_last_address = refl

-- P9: two areas at store words 0 to 63 and 63 to 70 share a word. From store word 64 on, the second shares none.
pub p9_shared_word : sound (profile_of (p8 ∷ area_of 2 0 8 63 ∷ [])) 256 ≡ false
unfolding sound every every_pair area_sound pair_sound apart octets_of word_octets
p9_shared_word = refl

pub p9_no_shared_word : sound (profile_of (p8 ∷ area_of 2 0 8 64 ∷ [])) 256 ≡ true
unfolding sound every every_pair area_sound pair_sound apart octets_of word_octets
p9_no_shared_word = refl

-- An area may end exactly at 2^32, and no later.
pub ends_at_the_top : sound (profile_of (area_of 1 (2 ^ 32 - 64) 64 0 ∷ [])) 128 ≡ true
unfolding sound every every_pair area_sound octets_of word_octets
ends_at_the_top = refl

pub ends_past_the_top : sound (profile_of (area_of 1 (2 ^ 32 - 63) 64 0 ∷ [])) 128 ≡ false
unfolding sound every every_pair area_sound octets_of word_octets
ends_past_the_top = refl

-- A store may be empty.
pub no_areas_no_store : sound (profile_of []) 0 ≡ true
unfolding sound every every_pair
no_areas_no_store = refl
