-- Document 01, "Numbers to hold it to": P1 to P10 as a single listing.
use Rattle.std.specs.Prelude.{◌≡◌, Bool, true, false, cond, List, [], ◌∷◌, ◌++◌, ℕ, length, replicate, Ok, Err, Result}
use Rattle.crc.specs.Register.{crc_of}
use Rattle.checks.specs.Verdict.{Verdict}
use Rattle.checks.specs.Verdict.{is_accepted, number_of, detail_of}
use Rattle.heading.specs.Heading.{length_right}
use Rattle.map.specs.declared.Profile.{Profile}
use Rattle.map.specs.Made.{all_flags, area_of, profile_with}
use Rattle.map.specs.Place.{inside}
use Rattle.wider.specs.Wider.{wider}
use Rattle.blocks.specs.Form.{form_of}
use Rattle.counts.specs.Counts.{next_count}
use Rattle.decide.specs.declared.State.{State}
use Rattle.requests.specs.declared.Action.TheVariants.{Dump}
use Rattle.requests.specs.Request.{carried_by, most_words}
use Rattle.terminal.specs.Outcome.{Input, input, verdict_on, octets_due, outcome_of, out_after, store_on}
use Rattle.lines.specs.Feed.{output_of}
use Rattle.lineunit.specs.Unit.{line_area, line_profile, line_time}
use Rattle.hexline.specs.Whole.{line_program, first}
use Rattle.demands.specs.Cases.{command, block, first_line, second_line, from, line_input, over}

-- The two lines.
abbrev pub example_input : List ℕ
example_input =
    -- 185CC0000005191101000167
    0x31 ∷ 0x38 ∷ 0x35 ∷ 0x43 ∷ 0x43 ∷ 0x30 ∷ 0x30 ∷ 0x30 ∷ 0x30 ∷ 0x30 ∷ 0x30 ∷ 0x35 ∷ 0x31 ∷ 0x39 ∷ 0x31 ∷ 0x31 ∷ 0x30 ∷ 0x31 ∷ 0x30 ∷ 0x30 ∷ 0x30 ∷ 0x31 ∷ 0x36 ∷ 0x37 ∷ 0x0A ∷
    -- 185CC0000005191101000168
    0x31 ∷ 0x38 ∷ 0x35 ∷ 0x43 ∷ 0x43 ∷ 0x30 ∷ 0x30 ∷ 0x30 ∷ 0x30 ∷ 0x30 ∷ 0x30 ∷ 0x35 ∷ 0x31 ∷ 0x39 ∷ 0x31 ∷ 0x31 ∷ 0x30 ∷ 0x31 ∷ 0x30 ∷ 0x30 ∷ 0x30 ∷ 0x31 ∷ 0x36 ∷ 0x38 ∷ 0x0A ∷ []

-- The six lines that they are answered.
abbrev pub example_output : List ℕ
example_output =
    -- 0851C000000D00000000000000010100185CC000
    0x30 ∷ 0x38 ∷ 0x35 ∷ 0x31 ∷ 0x43 ∷ 0x30 ∷ 0x30 ∷ 0x30 ∷ 0x30 ∷ 0x30 ∷ 0x30 ∷ 0x44 ∷ 0x30 ∷ 0x30 ∷ 0x30 ∷ 0x30 ∷ 0x30 ∷ 0x30 ∷ 0x30 ∷ 0x30 ∷ 0x30 ∷ 0x30 ∷ 0x30 ∷ 0x30 ∷ 0x30 ∷ 0x30 ∷ 0x30 ∷ 0x31 ∷ 0x30 ∷ 0x31 ∷ 0x30 ∷ 0x30 ∷ 0x31 ∷ 0x38 ∷ 0x35 ∷ 0x43 ∷ 0x43 ∷ 0x30 ∷ 0x30 ∷ 0x30 ∷ 0x0A ∷
    -- 0859C000000900000000000000110200
    0x30 ∷ 0x38 ∷ 0x35 ∷ 0x39 ∷ 0x43 ∷ 0x30 ∷ 0x30 ∷ 0x30 ∷ 0x30 ∷ 0x30 ∷ 0x30 ∷ 0x39 ∷ 0x30 ∷ 0x30 ∷ 0x30 ∷ 0x30 ∷ 0x30 ∷ 0x30 ∷ 0x30 ∷ 0x30 ∷ 0x30 ∷ 0x30 ∷ 0x30 ∷ 0x30 ∷ 0x30 ∷ 0x30 ∷ 0x31 ∷ 0x31 ∷ 0x30 ∷ 0x32 ∷ 0x30 ∷ 0x30 ∷ 0x0A ∷
    -- 0851C001000D00000000000000010700185CC000
    0x30 ∷ 0x38 ∷ 0x35 ∷ 0x31 ∷ 0x43 ∷ 0x30 ∷ 0x30 ∷ 0x31 ∷ 0x30 ∷ 0x30 ∷ 0x30 ∷ 0x44 ∷ 0x30 ∷ 0x30 ∷ 0x30 ∷ 0x30 ∷ 0x30 ∷ 0x30 ∷ 0x30 ∷ 0x30 ∷ 0x30 ∷ 0x30 ∷ 0x30 ∷ 0x30 ∷ 0x30 ∷ 0x30 ∷ 0x30 ∷ 0x31 ∷ 0x30 ∷ 0x37 ∷ 0x30 ∷ 0x30 ∷ 0x31 ∷ 0x38 ∷ 0x35 ∷ 0x43 ∷ 0x43 ∷ 0x30 ∷ 0x30 ∷ 0x30 ∷ 0x0A ∷
    -- 0000
    0x30 ∷ 0x30 ∷ 0x30 ∷ 0x30 ∷ 0x0A ∷
    -- 0851C002001100000000000000010200185CC00000020167
    0x30 ∷ 0x38 ∷ 0x35 ∷ 0x31 ∷ 0x43 ∷ 0x30 ∷ 0x30 ∷ 0x32 ∷ 0x30 ∷ 0x30 ∷ 0x31 ∷ 0x31 ∷ 0x30 ∷ 0x30 ∷ 0x30 ∷ 0x30 ∷ 0x30 ∷ 0x30 ∷ 0x30 ∷ 0x30 ∷ 0x30 ∷ 0x30 ∷ 0x30 ∷ 0x30 ∷ 0x30 ∷ 0x30 ∷ 0x30 ∷ 0x31 ∷ 0x30 ∷ 0x32 ∷ 0x30 ∷ 0x30 ∷ 0x31 ∷ 0x38 ∷ 0x35 ∷ 0x43 ∷ 0x43 ∷ 0x30 ∷ 0x30 ∷ 0x30 ∷ 0x30 ∷ 0x30 ∷ 0x30 ∷ 0x32 ∷ 0x30 ∷ 0x31 ∷ 0x36 ∷ 0x37 ∷ 0x0A ∷
    -- 0102
    0x30 ∷ 0x31 ∷ 0x30 ∷ 0x32 ∷ 0x0A ∷ []

-- A test's answer as a number.
abbrev pub digit : Bool → ℕ
digit true = 1
digit false = 0

-- A refusal's number and detail; nothing for acceptance, which is marked apart from number 0.
abbrev pub told : Verdict → List ℕ
told v = cond (is_accepted v) [] (number_of v ∷ detail_of v ∷ [])

-- The detail of data that is not well formed; nothing where it is.
abbrev pub malformed : Result Unit ℕ → List ℕ
malformed (Ok _) = []
malformed (Err k) = k ∷ []

-- The counts of categories 1 and 9.
abbrev pub counts : State → List ℕ
counts s = s.counts.reports ∷ s.counts.services ∷ []

-- A row: which number of document 01 it belongs to, what the definitions give, and what must come out.
pub record Held : Type 0 where
  pub number : ℕ
  pub given : List ℕ
  pub due : List ℕ

-- A row put together.
abbrev pub held : ℕ → List ℕ → List ℕ → Held
held number given due = record { number = number; given = given; due = due }

-- What the definitions give is what must come out.
abbrev pub Holds : Held → Type 0
Holds r = r.given ≡ r.due

-- A packet right behind another at the line program, from what the first left of state, store and buffer.
abbrev pub next_input : List ℕ → List ℕ → Input
next_input before packet =
    input line_profile (outcome_of (line_input (from 0 0) before)).state line_time packet (store_on (line_input (from 0 0) before)) (out_after (line_input (from 0 0) before))

-- P10's two profiles: the line program's area, and the same with 128 words.
abbrev pub short : Profile
short = profile_with 5 all_flags (area_of 1 0x1000 64 0 ∷ [])

abbrev pub long : Profile
long = profile_with 5 all_flags (area_of 1 0x1000 128 0 ∷ [])

-- The listing.
unfoldable pub listing : List Held
listing =
    -- P1: the CRC of no octets, of 00 and of 00 00.
    held 1 (crc_of [] ∷ []) (0xFFFF ∷ [])
    ∷ held 1 (crc_of (0x00 ∷ []) ∷ []) (0xE1F0 ∷ [])
    ∷ held 1 (crc_of (0x00 ∷ 0x00 ∷ []) ∷ []) (0x1D0F ∷ [])
    -- P2: the first line's CRC.
    ∷ held 2 (crc_of (0x18 ∷ 0x5C ∷ 0xC0 ∷ 0x00 ∷ 0x00 ∷ 0x05 ∷ 0x19 ∷ 0x11 ∷ 0x01 ∷ 0x00 ∷ []) ∷ []) (0x0167 ∷ [])
    -- P3: the frames of the first line, its acceptance and the counts after it; from its own outcome, the frame of the second line and its refusal; and the whole printed output of both.
    ∷ held 3 (octets_due (line_input (from 0 0) first_line))
    ((0x08 ∷ 0x51 ∷ 0xC0 ∷ 0x00 ∷ 0x00 ∷ 0x0D ∷ 0x00 ∷ 0x00 ∷ 0x00 ∷ 0x00 ∷ 0x00 ∷ 0x00 ∷ 0x00 ∷ 0x01 ∷ 0x01 ∷ 0x00 ∷ 0x18 ∷ 0x5C ∷ 0xC0 ∷ 0x00 ∷ [])
    ++ (0x08 ∷ 0x59 ∷ 0xC0 ∷ 0x00 ∷ 0x00 ∷ 0x09 ∷ 0x00 ∷ 0x00 ∷ 0x00 ∷ 0x00 ∷ 0x00 ∷ 0x00 ∷ 0x00 ∷ 0x11 ∷ 0x02 ∷ 0x00 ∷ [])
    ++ (0x08 ∷ 0x51 ∷ 0xC0 ∷ 0x01 ∷ 0x00 ∷ 0x0D ∷ 0x00 ∷ 0x00 ∷ 0x00 ∷ 0x00 ∷ 0x00 ∷ 0x00 ∷ 0x00 ∷ 0x01 ∷ 0x07 ∷ 0x00 ∷ 0x18 ∷ 0x5C ∷ 0xC0 ∷ 0x00 ∷ []))
    ∷ held 3 (told (verdict_on (line_input (from 0 0) first_line))) []
    ∷ held 3 (counts (outcome_of (line_input (from 0 0) first_line)).state) (2 ∷ 1 ∷ [])
    ∷ held 3 (octets_due (next_input first_line second_line)) (0x08 ∷ 0x51 ∷ 0xC0 ∷ 0x02 ∷ 0x00 ∷ 0x11 ∷ 0x00 ∷ 0x00 ∷ 0x00 ∷ 0x00 ∷ 0x00 ∷ 0x00 ∷ 0x00 ∷ 0x01 ∷ 0x02 ∷ 0x00 ∷ 0x18 ∷ 0x5C ∷ 0xC0 ∷ 0x00 ∷ 0x00 ∷ 0x02 ∷ 0x01 ∷ 0x67 ∷ [])
    ∷ held 3 (told (verdict_on (next_input first_line second_line))) (2 ∷ 0x0167 ∷ [])
    ∷ held 3 (output_of (line_program line_profile) first example_input) example_output
    -- P4: five octets.
    ∷ held 4 (told (verdict_on (line_input (from 0 0) (0x18 ∷ 0x5C ∷ 0xC0 ∷ 0x00 ∷ 0x00 ∷ [])))) (42 ∷ 0 ∷ [])
    -- P5: the count after 16,383; the first line from it: (1,1) with count 16,383, (17,2), (1,7) with count 0; and both counts after that from 16,383.
    ∷ held 5 (next_count 16383 ∷ []) (0 ∷ [])
    ∷ held 5 (octets_due (line_input (from 16383 0) first_line))
    ((0x08 ∷ 0x51 ∷ 0xFF ∷ 0xFF ∷ 0x00 ∷ 0x0D ∷ 0x00 ∷ 0x00 ∷ 0x00 ∷ 0x00 ∷ 0x00 ∷ 0x00 ∷ 0x00 ∷ 0x01 ∷ 0x01 ∷ 0x00 ∷ 0x18 ∷ 0x5C ∷ 0xC0 ∷ 0x00 ∷ [])
    ++ (0x08 ∷ 0x59 ∷ 0xC0 ∷ 0x00 ∷ 0x00 ∷ 0x09 ∷ 0x00 ∷ 0x00 ∷ 0x00 ∷ 0x00 ∷ 0x00 ∷ 0x00 ∷ 0x00 ∷ 0x11 ∷ 0x02 ∷ 0x00 ∷ [])
    ++ (0x08 ∷ 0x51 ∷ 0xC0 ∷ 0x00 ∷ 0x00 ∷ 0x0D ∷ 0x00 ∷ 0x00 ∷ 0x00 ∷ 0x00 ∷ 0x00 ∷ 0x00 ∷ 0x00 ∷ 0x01 ∷ 0x07 ∷ 0x00 ∷ 0x18 ∷ 0x5C ∷ 0xC0 ∷ 0x00 ∷ []))
    ∷ held 5 (counts (outcome_of (line_input (from 16383 16383) first_line)).state) (1 ∷ 0 ∷ [])
    -- P6: the octets of a load of 114 words, which passes check 1, and of one of 115 words, which is refused.
    ∷ held 6 (length (command 6 2 (1 ∷ 1 ∷ (block 0x1000 114 ++ replicate 228 0xA5))) ∷ digit (length_right (command 6 2 (1 ∷ 1 ∷ (block 0x1000 114 ++ replicate 228 0xA5)))) ∷ []) (248 ∷ 1 ∷ [])
    ∷ held 6 (length (command 6 2 (1 ∷ 1 ∷ (block 0x1000 115 ++ replicate 230 0xA5))) ∷ told (verdict_on (line_input (from 0 0) (command 6 2 (1 ∷ 1 ∷ (block 0x1000 115 ++ replicate 230 0xA5)))))) (250 ∷ 1 ∷ 250 ∷ [])
    -- P7: a dump of 240 words and of 241.
    ∷ held 7 (malformed (form_of (carried_by Dump) (most_words Dump) (1 ∷ 1 ∷ block 0x1000 240))) []
    ∷ held 7 (malformed (form_of (carried_by Dump) (most_words Dump) (1 ∷ 1 ∷ block 0x1000 241))) (1 ∷ [])
    ∷ held 7 (told (verdict_on (line_input (from 0 0) (command 6 5 (1 ∷ 1 ∷ block 0x1000 241))))) (5 ∷ 1 ∷ [])
    -- P8: inside the area, and not.
    ∷ held 8 (digit (inside line_area 0x103F 1) ∷ []) (1 ∷ [])
    ∷ held 8 (digit (inside line_area 0x103F 2) ∷ []) (0 ∷ [])
    ∷ held 8 (digit (inside line_area 0x1040 1) ∷ []) (0 ∷ [])
    ∷ held 8 (digit (inside line_area 0x0FFF 1) ∷ []) (0 ∷ [])
    ∷ held 8 (digit (inside line_area 0xFFFFFFFF 1) ∷ []) (0 ∷ [])
    -- P9: areas at store words 0 to 63 and 63 to 70.
    ∷ held 9 (told (verdict_on (over (profile_with 5 all_flags (area_of 1 0x1000 64 0 ∷ area_of 2 0x2000 8 63 ∷ [])) 256 first_line))) (41 ∷ 0 ∷ [])
    -- P10: a check of three blocks, by the line program, and over a store of 256 octets by its area and by the longer one, whose profile is wider.
    ∷ held 10 (told (verdict_on (line_input (from 0 0) (command 6 9 (1 ∷ 3 ∷ (block 0x1000 1 ++ block 0x1050 1 ++ block 0x1090 1)))))) (19 ∷ 2 ∷ [])
    ∷ held 10 (told (verdict_on (over short 256 (command 6 9 (1 ∷ 3 ∷ (block 0x1000 1 ++ block 0x1050 1 ++ block 0x1090 1)))))) (19 ∷ 2 ∷ [])
    ∷ held 10 (told (verdict_on (over long 256 (command 6 9 (1 ∷ 3 ∷ (block 0x1000 1 ++ block 0x1050 1 ++ block 0x1090 1)))))) (19 ∷ 3 ∷ [])
    ∷ held 10 (digit (wider long short 256) ∷ digit (wider short long 256) ∷ []) (1 ∷ 0 ∷ [])
    ∷ []
