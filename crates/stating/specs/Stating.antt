-- docs/UNITS.md, "Items": what the words behind an item state: a number, services or rights, octets.
use Rattle.std.specs.Prelude.{Bool, true, false, cond, not, ◌&&◌, Option, Some, None, Result, Ok, Err, List, [], ◌∷◌, map, ℕ, ◌+◌, ◌/◌, ◌%◌, length, drop, eqb, leb}
use Rattle.laws.specs.Fold.{joined}
use Rattle.characters.specs.Digits.{all_digits_of, octets_in}
use Rattle.map.specs.declared.Flags.{Flags}
use Rattle.words.specs.Ascii.{ascii}
use Rattle.words.specs.Words.{words_of, same_text}
use Rattle.numerals.specs.declared.NumeralError.{NumeralError}
use Rattle.numerals.specs.Numbers.{numeral_of}
use Rattle.stating.specs.declared.Words.{Words}
use Rattle.stating.specs.declared.Flag.{Flag}
use Rattle.stating.specs.declared.Flag.TheVariants.{Load, Dump, Check, Connection}
use Rattle.stating.specs.declared.fault.Fault.{Fault}
use Rattle.stating.specs.declared.fault.Fault.TheVariants.{PutDigits, PutOdd}
use Rattle.stating.specs.Faults.{numeral_fault}

-- What follows from what is stated; where something is wrong, that.
abbrev pub and_then : {A B : Type 0} → Result A Fault → (A → Result B Fault) → Result B Fault
and_then (Ok x) next = next x
and_then (Err fault) next = Err fault

-- The words of a line that are left; and whether there are words.
abbrev pub words_left : Words → List (List ℕ)
words_left w = words_of (drop w.at w.line.now)

abbrev pub is_some : List (List ℕ) → Bool
is_some [] = false
is_some (w ∷ ws) = true

-- A number that is at most so large; where there is none, what is wrong.
abbrev pub bounded : ℕ → Fault → Result ℕ NumeralError → Result ℕ Fault
bounded most large (Ok x) = cond (leb x most) (Ok x) (Err large)
bounded most large (Err e) = Err (numeral_fault e)

-- The number that the first of some words states: it may be missing.
unfoldable pub number_stated : ℕ → Fault → Fault → List (List ℕ) → Result ℕ Fault
number_stated most missing large [] = Err missing
number_stated most missing large (w ∷ ws) = bounded most large (numeral_of w)

-- The value of a number, and of what the first of some words states, also where it is above its bound; 0 where no number up to 4294967295 is stated.
abbrev pub numeral_value : Result ℕ NumeralError → ℕ
numeral_value (Ok x) = x
numeral_value (Err e) = 0

unfoldable pub number_value : List (List ℕ) → ℕ
number_value [] = 0
number_value (w ∷ ws) = numeral_value (numeral_of w)

-- Which flag a word names.
unfoldable pub flag_named : List ℕ → Option Flag
flag_named w =
    cond (same_text w (ascii "load")) (Some Load)
    (cond (same_text w (ascii "dump")) (Some Dump)
    (cond (same_text w (ascii "check")) (Some Check)
    (cond (same_text w (ascii "connection")) (Some Connection) None)))

-- Whether a flag is set, and the flags with it set.
abbrev pub has_flag : Flags → Flag → Bool
has_flag f Load = f.load
has_flag f Dump = f.dump
has_flag f Check = f.check
has_flag f Connection = f.connection

abbrev pub with_flag : Flags → Flag → Flags
with_flag f Load = record f { load = true }
with_flag f Dump = record f { dump = true }
with_flag f Check = record f { check = true }
with_flag f Connection = record f { connection = true }

-- No flag is set.
abbrev pub no_flags : Flags
no_flags = record { load = false; dump = false; check = false; connection = false }

-- The flags with one more: one of those that are known, which is not set yet.
abbrev pub flag_added : Flags → Fault → Fault → Flags → Option Flag → Result Flags Fault
flag_added known unknown twice f None = Err unknown
flag_added known unknown twice f (Some k) = cond (has_flag known k) (cond (has_flag f k) (Err twice) (Ok (with_flag f k))) (Err unknown)

-- The flags that words name behind some that are set: of those that are known, each at most once, in any order.
unfoldable pub flags_from : Flags → Fault → Fault → Flags → List (List ℕ) → Result Flags Fault
flags_from known unknown twice f [] = Ok f
flags_from known unknown twice f (w ∷ ws) =
    and_then (flag_added known unknown twice f (flag_named w)) (λ g. flags_from known unknown twice g ws)

-- Whether a word names one more of those that are known, which is not set yet; and the flags with the one that it names.
abbrev pub is_more : Flags → Flags → Option Flag → Bool
is_more known f None = false
is_more known f (Some k) = has_flag known k && not (has_flag f k)

abbrev pub with_named : Flags → Option Flag → Flags
with_named f None = f
with_named f (Some k) = with_flag f k

-- The flags that the words before the first one at fault name, behind some that are set.
unfoldable pub flags_told : Flags → Flags → List (List ℕ) → Flags
flags_told known f [] = f
flags_told known f (w ∷ ws) = cond (is_more known f (flag_named w)) (flags_told known (with_named f (flag_named w)) ws) f

-- How many octets the words state behind so many: two digits each.
unfoldable pub digits_from : ℕ → List (List ℕ) → Result ℕ Fault
digits_from n [] = Ok n
digits_from n (w ∷ ws) =
    cond (all_digits_of w)
    (cond (eqb (length w % 2) 0) (digits_from (n + length w / 2) ws) (Err PutOdd))
    (Err PutDigits)

-- How many octets the words before the first one at fault state, behind so many.
unfoldable pub digits_told : ℕ → List (List ℕ) → ℕ
digits_told n [] = n
digits_told n (w ∷ ws) = cond (all_digits_of w && eqb (length w % 2) 0) (digits_told (n + length w / 2) ws) n

-- Those octets.
abbrev pub octets_stated : List (List ℕ) → List ℕ
octets_stated ws = joined (map octets_in ws)
