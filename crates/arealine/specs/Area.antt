-- docs/UNITS.md, "Items": the area that words state, `ID start N words N at N [size N] [RIGHT ..]`, or what is wrong with them.
use Rattle.std.specs.Prelude.{Bool, true, false, cond, Result, Ok, Err, List, [], ◌∷◌, ℕ, ◌/◌, ◌%◌, drop, eqb}
use Rattle.map.specs.declared.Flags.{Flags}
use Rattle.map.specs.declared.Rights.{Rights}
use Rattle.map.specs.declared.Area.{Area}
use Rattle.map.specs.Made.{no_rights, area_with}
use Rattle.words.specs.Ascii.{ascii}
use Rattle.words.specs.Words.{same_text}
use Rattle.numerals.specs.Numbers.{number_most}
use Rattle.stating.specs.declared.fault.Fault.{Fault}
use Rattle.stating.specs.declared.fault.Fault.TheVariants.{AreaForm, AreaId, AreaOdd, AreaSize, RightTwice, NumberLarge}
use Rattle.stating.specs.Stating.{and_then, number_stated, no_flags, flags_from}

-- The largest memory ID, and the one size of a word that there is today.
abbrev pub id_most : ℕ
id_most = 255

abbrev pub word_size : ℕ
word_size = 2

-- Whether a text is the first of some words.
abbrev pub is_next : List ℕ → List (List ℕ) → Bool
is_next text [] = false
is_next text (w ∷ ws) = same_text w text

-- A word and the number behind it.
unfoldable pub labelled : List ℕ → List (List ℕ) → Result ℕ Fault
labelled label ws = cond (is_next label ws) (number_stated number_most AreaForm NumberLarge (drop 1 ws)) (Err AreaForm)

-- `at N`: an area begins at an even octet, which a word of the store has as its first.
unfoldable pub first_word : List (List ℕ) → Result ℕ Fault
first_word ws = and_then (labelled (ascii "at") ws) (λ n. cond (eqb (n % word_size) 0) (Ok (n / word_size)) (Err AreaOdd))

-- The words behind `size N`, which may be left out.
unfoldable pub past_size : List (List ℕ) → Result (List (List ℕ)) Fault
past_size ws =
    cond (is_next (ascii "size") ws)
    (and_then (labelled (ascii "size") ws) (λ n. cond (eqb n word_size) (Ok (drop 2 ws)) (Err AreaSize)))
    (Ok ws)

-- The flags that are rights, and the rights that words name: load, dump and check.
abbrev pub right_flags : Flags
right_flags = record { load = true; dump = true; check = true; connection = false }

unfoldable pub rights_named : List (List ℕ) → Result Rights Fault
rights_named ws =
    and_then (flags_from right_flags AreaForm RightTwice no_flags ws)
    (λ f. Ok (record { load = f.load; dump = f.dump; check = f.check }))

-- `ID start N words N at N`: an area without rights.
unfoldable pub placed : List (List ℕ) → Result Area Fault
placed ws =
    and_then (number_stated id_most AreaForm AreaId ws) (λ id.
    and_then (labelled (ascii "start") (drop 1 ws)) (λ start.
    and_then (labelled (ascii "words") (drop 3 ws)) (λ length.
    and_then (first_word (drop 5 ws)) (λ first.
    Ok (area_with no_rights id start length first)))))

-- The area that words state; the first that is wrong from the left is told.
unfoldable pub area_stated : List (List ℕ) → Result Area Fault
area_stated ws =
    and_then (placed ws) (λ area.
    and_then (past_size (drop 7 ws)) (λ rest.
    and_then (rights_named rest) (λ rights. Ok (record area { rights = rights }))))
