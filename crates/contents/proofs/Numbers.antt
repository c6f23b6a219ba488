-- Numbers and entries laid out read back, and what is read is laid out again.
-- Assumes nothing.
use mathlib.Core.Path.{◌≡◌, refl, sym, ap, ap₂, ◌∙◌}
use mathlib.Core.Bool.{true}
use mathlib.Core.List.{List, [], ◌∷◌, ◌++◌}
use Prim.Native.Nat.{ℕ, zero, suc, ◌+◌, ◌*◌, ◌/◌, ◌%◌}
use native.Mathlib.Omega.{arith}
use lib.ListN.{length, drop, length-append, length-drop}
use lib.Dec.{leb}
use borrow.Author.Tests.{le-leb, leb-true}
use Rattle.laws.specs.Each.{Each}
use Rattle.laws.proofs.Tests.{both}
use Rattle.octets.specs.Numbers.{Octets, octet, word16, word32, octets16}
use Rattle.octets.proofs.Octets.{drop_octets, word16_small, word32_small}
use Rattle.octets.proofs.Words.{octets16_of_word16, octets32_of_word32, run, run_drop}
use Rattle.reports.specs.Source.{check_entry}
use Rattle.contents.specs.declared.Entry.{Entry}
use Rattle.contents.specs.Source.{entry_size, first_entry, entries_in, lengths_right_of}
use Rattle.contents.specs.Told.{entries_laid, EntryFits}

-- Two numbers of 16 bits from a place on are the octets there.
pub pair_octets : (s : List ℕ) (at : ℕ) → Octets s
    → octets16 (word16 s at) ++ octets16 (word16 s (at + 2)) ≡ octet s at ∷ octet s (at + 1) ∷ octet s (at + 2) ∷ octet s (at + 2 + 1) ∷ []
pair_octets s at o =
    ap₂ (λ (x y : List ℕ). x ++ y) (octets16_of_word16 s at (o at) (o (at + 1))) (octets16_of_word16 s (at + 2) (o (at + 2)) (o (at + 2 + 1)))

-- A number of 16 bits that is read where it was laid.
pub read16 : (x : ℕ) → x / 256 * 256 + x % 256 ≡ x
read16 x = omega arith

-- ---- entries

-- The entry at the front of some octets, laid out, is what they begin with.
entry_run : (s : List ℕ) → Octets s → check_entry (word32 s 0) (word16 s 4) (word16 s 6) ≡ run s 0 8
unfolding run
entry_run s o =
    ap₂ (λ (x y : List ℕ). x ++ y ++ octets16 (word16 s 6)) (octets32_of_word32 s 0 o) (octets16_of_word16 s 4 (o 4) (o 5))
    ∙ ap (λ (z : List ℕ). octet s 0 ∷ octet s 1 ∷ octet s 2 ∷ octet s 3 ∷ octet s 4 ∷ octet s 5 ∷ z) (octets16_of_word16 s 6 (o 6) (o 7))

pub entries_length : (n : ℕ) (s : List ℕ) → length (entries_in n s) ≡ n
unfolding entries_in
entries_length zero s = refl
entries_length (suc n) s = ap suc (entries_length n (drop entry_size s))

-- Octets that are so many entries are laid out again by what is read in them.
pub entries_again : (n : ℕ) (s : List ℕ) → Octets s → length s ≡ n * entry_size → entries_laid (entries_in n s) ≡ s
unfolding entries_in entries_laid
entries_again zero [] o e = refl
entries_again zero (x ∷ s) o e = absurd (omega arith)
entries_again (suc n) s o e =
    let rest : length (drop entry_size s) ≡ n * entry_size = length-drop entry_size s ∙ omega arith in
    ap₂ (λ (x y : List ℕ). x ++ y) (entry_run s o) (entries_again n (drop entry_size s) (drop_octets entry_size s o) rest)
    ∙ sym (run_drop s 0 8 (omega arith))

-- What is read in octets has room, where the lengths are right.
pub entries_fit : (n : ℕ) (s : List ℕ) → Octets s → lengths_right_of n s ≡ true → Each EntryFits (entries_in n s)
unfolding entries_in lengths_right_of
entries_fit zero s o h = tt
entries_fit (suc n) s o h =
    let here = both (leb 1 (word16 s 4)) (lengths_right_of n (drop entry_size s)) h in (
      record { start = word32_small s 0 o; least = leb-true _ _ here.0; length = word16_small s 4 o; crc = word16_small s 6 o },
      entries_fit n (drop entry_size s) (drop_octets entry_size s o) here.1,
    )

-- An entry that has room reads back from what it is laid out as.
entry_read : (e : Entry) (rest : List ℕ) → EntryFits e → first_entry (check_entry e.start e.length e.crc ++ rest) ≡ e
entry_read e rest f =
    let start : word32 (check_entry e.start e.length e.crc ++ rest) 0 ≡ e.start = omega (arith, f.start) in
    λ i. record { start = start i; length = read16 e.length i; crc = read16 e.crc i }

pub entries_read : (es : List Entry) → Each EntryFits es → entries_in (length es) (entries_laid es) ≡ es
unfolding entries_in entries_laid
entries_read [] h = refl
entries_read (e ∷ es) h = ap₂ (λ (x : Entry) (xs : List Entry). x ∷ xs) (entry_read e (entries_laid es) h.0) (entries_read es h.1)

pub entries_right : (es : List Entry) → Each EntryFits es → lengths_right_of (length es) (entries_laid es) ≡ true
unfolding lengths_right_of entries_laid
entries_right [] h = refl
entries_right (e ∷ es) h =
    let least : leb 1 (word16 (entries_laid (e ∷ es)) 4) ≡ true = le-leb 1 (e.length / 256 * 256 + e.length % 256) (omega (arith, h.0.least, read16 e.length)) in
    simp (least, entries_right es h.1)

pub laid-length : (es : List Entry) → length (entries_laid es) ≡ length es * entry_size
unfolding entries_laid
laid-length [] = refl
laid-length (e ∷ es) = length-append (check_entry e.start e.length e.crc) (entries_laid es) ∙ omega (arith, laid-length es)
