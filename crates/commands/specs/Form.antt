-- docs/CASES.md, "Lines": which command a line is, and the octets that each command takes.
use Rattle.std.specs.Prelude.{Bool, cond, ◌&&◌, ◌||◌, List, Option, Some, None, ℕ, ◌+◌, ◌*◌, ◌-◌, ◌/◌, ◌%◌, length, drop, leb, eqb}
use Rattle.std.specs.List.{list_all, range_with_len}
use Rattle.octets.specs.Numbers.{octet, word16}
use Rattle.counts.specs.Counts.{counts_octets}
use Rattle.characters.specs.Digits.{all_digits_of, octets_in}
use Rattle.commands.specs.declared.form.Command.{Command}
use Rattle.commands.specs.declared.form.Command.TheVariants.{SetProfile, SetStore, SetCounts, SetTime, SetBuffer, Answer, PrintBuffer, PrintStore, Read, Write, Check, CheckFrom, Wider, ReadFrames}
use Rattle.commands.specs.Letters.{letter_p, letter_s, letter_k, letter_t, letter_b, letter_x, letter_o, letter_m, letter_r, letter_w, letter_c, letter_d, letter_v, letter_f}

-- The most characters of a line: a letter, a space, and the digits of 70,000 octets.
abbrev pub line_most : ℕ
line_most = 140002

-- The digits of a line stand behind its letter and its space.
abbrev pub digits_of : List ℕ → List ℕ
digits_of line = drop 2 line

-- The octets that a line gives.
abbrev pub given_in : List ℕ → List ℕ
given_in line = octets_in (digits_of line)

-- A letter, a space and the digits of whole octets, at most 70,000 of them.
abbrev pub is_spaced : List ℕ → Bool
is_spaced line = leb 2 (length line) && leb (length line) line_most && eqb (length line % 2) 0 && eqb (octet line 1) 0x20 && all_digits_of (digits_of line)

-- A line is a letter alone, or one with octets.
unfoldable pub is_line : List ℕ → Bool
is_line line = eqb (length line) 1 || is_spaced line

-- The command that is a letter alone.
unfoldable pub alone : ℕ → Option Command
alone letter =
    cond (eqb letter letter_o) (Some PrintBuffer)
    (cond (eqb letter letter_m) (Some PrintStore) None)

-- How many octets stand before the areas of a profile, and how many an area has.
abbrev pub head_octets : ℕ
head_octets = 3

abbrev pub area_octets : ℕ
area_octets = 14

-- Where the rights of the first area stand: in its last octet.
abbrev pub rights_at : ℕ
rights_at = 16

-- The rights of each of eight areas are among load, dump and check; octets past the end count as 0.
unfoldable pub rights_known : List ℕ → Bool
rights_known given = list_all (λ k. leb (octet given (rights_at + area_octets * k)) 7) (range_with_len 0 8)

-- PID, flags, area count, and at most 8 whole areas, with no flag and no right that there is not.
unfoldable pub is_profile : List ℕ → Bool
is_profile given =
    leb head_octets (length given)
    && eqb ((length given - head_octets) % area_octets) 0
    && leb ((length given - head_octets) / area_octets) 8
    && leb (octet given 1) 15
    && rights_known given

-- A length of at most 8,192, and an octet.
unfoldable pub is_buffer : List ℕ → Bool
is_buffer given = eqb (length given) 3 && leb (word16 given 0) 8192

-- How many octets an order to the writer has before its data, and where its checksum flag stands.
abbrev pub order_octets : ℕ
order_octets = 9

abbrev pub flag_at : ℕ
flag_at = 4

-- An order, and a checksum flag of 0 or 1.
unfoldable pub is_order : List ℕ → Bool
is_order given = leb order_octets (length given) && leb (octet given flag_at) 1

-- How many octets the value is that a CRC goes on from.
abbrev pub start_octets : ℕ
start_octets = 2

-- The command of a letter that is given octets, where it takes these.
unfoldable pub taking : ℕ → List ℕ → Option Command
taking letter given =
    cond (eqb letter letter_p && is_profile given) (Some SetProfile)
    (cond (eqb letter letter_s && leb (length given) 65600) (Some SetStore)
    (cond (eqb letter letter_k && eqb (length given) counts_octets) (Some SetCounts)
    (cond (eqb letter letter_t && eqb (length given) 6) (Some SetTime)
    (cond (eqb letter letter_b && is_buffer given) (Some SetBuffer)
    (cond (eqb letter letter_x && leb (length given) 69999) (Some Answer)
    (cond (eqb letter letter_r) (Some Read)
    (cond (eqb letter letter_w && is_order given) (Some Write)
    (cond (eqb letter letter_c) (Some Check)
    (cond (eqb letter letter_d && leb start_octets (length given)) (Some CheckFrom)
    (cond (eqb letter letter_v && is_profile given) (Some Wider)
    (cond (eqb letter letter_f && leb (length given) 69999) (Some ReadFrames) None)))))))))))

-- The command of a line that is given those octets; a line that is none is bad.
unfoldable pub command_of : List ℕ → List ℕ → Option Command
command_of line given =
    cond (is_line line) (cond (eqb (length line) 1) (alone (octet line 0)) (taking (octet line 0) given)) None

-- The command of a line.
abbrev pub command_in : List ℕ → Option Command
command_in line = command_of line (given_in line)
