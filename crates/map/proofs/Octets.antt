-- Where the words of an area's blocks stand in the store, and how many octets they are. What a word's size is stays in this crate.
-- Assumes nothing.
use Rattle.std.specs.Prelude.{Some}
use mathlib.Core.Bool.{Bool, true, false, false≢true, ◌||◌}
use mathlib.Core.Logic.{◌⊎◌, inl, inr, ⊎_elim}
use mathlib.Core.Path.{◌≡◌, refl, sym, ap, ◌∙◌}
use mathlib.Core.List.{List}
use Prim.Native.Nat.{ℕ, ◌+◌, ◌*◌, ◌-◌, ◌^◌, ◌≤◌, ◌<◌}
use native.Mathlib.Omega.{arith}
use lib.ListN.{length}
use borrow.Author.Tests.{leb-true, leb-false}
use Rattle.octets.specs.Numbers.{Octets}
use Rattle.octets.specs.Copy.{laid, between}
use Rattle.octets.proofs.Between.{between-length, between_most}
use Rattle.octets.proofs.Laid.{laid_read}
use Rattle.octets.proofs.Octets.{between_octets}
use Rattle.map.specs.declared.Area.{Area}
use Rattle.map.specs.declared.Profile.{Profile}
use Rattle.map.specs.Place.{word_octets, dump_words, dump_octets, used, find_in, inside, octet_at, octets_of, stored_at, Off}
use Rattle.map.specs.Sound.{sound, area_sound, ahead, apart}
use Rattle.laws.proofs.Tests.{halves}
use Rattle.map.proofs.Soundness.{area_facts, apart_facts}
use Rattle.map.proofs.Finding.{found_apart}

pub record InsideFacts (a : Area) (start words : ℕ) : Type 0 where
  pub from : a.start ≤ start
  pub to : start + words ≤ a.start + a.length

pub inside_facts : (a : Area) (start words : ℕ) → inside a start words ≡ true → InsideFacts a start words
unfolding inside
inside_facts a start words h = record { from = leb-true _ _ (search halves); to = leb-true _ _ (search halves) }

-- A block inside a sound area lies in the store.
pub inside_store :
    (octets : ℕ) (a : Area) (start words : ℕ)
    → area_sound octets a ≡ true
    → inside a start words ≡ true
    → octet_at a start + octets_of a words ≤ octets
unfolding octet_at octets_of word_octets
inside_store octets a start words s h = omega (arith, (area_facts octets a s).stored, inside_facts a start words h)

-- Two addresses of one area have octets of their own.
pub different_octets : (a : Area) (x y : ℕ) → a.start ≤ x → x < y → octet_at a x + octets_of a 1 ≤ octet_at a y
unfolding octet_at octets_of word_octets
different_octets a x y h l = omega arith

-- Blocks of two areas that share no store word: the octets of one lie wholly before those of the other.
pub apart_octets :
    (a b : Area) (s v t w : ℕ)
    → apart a b ≡ true
    → inside a s v ≡ true
    → inside b t w ≡ true
    → (octet_at a s + octets_of a v ≤ octet_at b t) ⊎ (octet_at b t + octets_of b w ≤ octet_at a s)
unfolding octet_at octets_of word_octets
apart_octets a b s v t w p ha hb =
    let ia = inside_facts a s v ha in
    let ib = inside_facts b t w hb in
    ⊎_elim (λ l. inl (omega arith)) (λ l. inr (omega arith)) (apart_facts a b p)

-- So do the octets of blocks inside areas that are found by two memory IDs in a sound profile.
pub found_octets_apart :
    (p : Profile) (octets i j : ℕ) (a b : Area) (s v t w : ℕ)
    → sound p octets ≡ true
    → find_in i (used p) ≡ Some a
    → find_in j (used p) ≡ Some b
    → (i ≡ j → ⊥)
    → inside a s v ≡ true
    → inside b t w ≡ true
    → (octet_at a s + octets_of a v ≤ octet_at b t) ⊎ (octet_at b t + octets_of b w ≤ octet_at a s)
found_octets_apart p octets i j a b s v t w h ha hb d =
    apart_octets a b s v t w (found_apart p octets i j a b h ha hb d)

neither : (x y : Bool) → x || y ≡ false → (x ≡ false) × (y ≡ false)
neither true y h = absurd (false≢true (sym h))
neither false y h = (refl, h)

-- Areas that share a store word: the octets of each begin before those of the other end.
pub meet_octets :
    (a b : Area)
    → apart a b ≡ false
    → (octets_of a a.first < octets_of b (b.first + b.length)) × (octets_of b b.first < octets_of a (a.first + a.length))
unfolding apart octets_of word_octets
meet_octets a b h =
    let n = neither (ahead a b) (ahead b a) h in
    let l : b.first < a.first + a.length = leb-false _ _ n.0 in
    let m : a.first < b.first + b.length = leb-false _ _ n.1 in
    (omega arith, omega arith)

-- Words are so many octets each.
pub octets_words : (a : Area) (words : ℕ) → octets_of a words ≡ words * word_octets
unfolding octets_of
octets_words a words = refl

-- Fewer words are fewer octets.
pub octets_below : (a : Area) (m n : ℕ) → m < n → octets_of a m < octets_of a n
unfolding octets_of word_octets
octets_below a m n h = omega arith

-- Where the words of a block end has 64 bits, whatever the area and the block.
pub octets_fit :
    (a : Area) (start words : ℕ)
    → a.first < 2 ^ 32
    → start < 2 ^ 32
    → words < 2 ^ 32
    → octet_at a start + octets_of a words < 2 ^ 64
unfolding octet_at octets_of word_octets
octets_fit a start words f s w = omega arith

-- A block of a dump carries at most 480 octets.
pub dump_most_lem : (a : Area) (words : ℕ) → words ≤ dump_words → octets_of a words ≤ dump_octets
unfolding octets_of word_octets
dump_most_lem a words h = omega arith

-- No more octets of the store are read than the words have.
pub stored_most : (a : Area) (store : List ℕ) (start words : ℕ) → length (stored_at a store start words) ≤ octets_of a words
unfolding stored_at
stored_most a store start words = omega (arith, between_most (octet_at a start) (octet_at a start + octets_of a words) store)

-- The words of a block that is inside an area lie in the area's words.
pub off_block :
    (a : Area) (k start words : ℕ)
    → Off a k
    → inside a start words ≡ true
    → (k < octet_at a start) ⊎ (octet_at a start + octets_of a words ≤ k)
unfolding Off octet_at octets_of word_octets
off_block a k start words off h =
    let i = inside_facts a start words h in
    ⊎_elim (λ (l : k < octets_of a a.first). inl (omega arith)) (λ (l : octets_of a (a.first + a.length) ≤ k). inr (omega arith)) off

-- An address whose word is the same of two areas begins at the same octet.
pub octet_same : (a b : Area) (x : ℕ) → a.start ≤ b.start → b.start ≤ x → a.first + (b.start - a.start) ≡ b.first → octet_at a x ≡ octet_at b x
unfolding octet_at octets_of word_octets
octet_same a b x h l e = omega arith

-- From there on the same words of the store are read.
pub stored_same : (a b : Area) (store : List ℕ) (start words : ℕ) → octet_at a start ≡ octet_at b start → stored_at a store start words ≡ stored_at b store start words
unfolding stored_at octets_of
stored_same a b store start words e = rw e refl

-- Words that were laid at an address are those read from there.
pub stored_laid : (a : Area) (store : List ℕ) (start words : ℕ) (s : List ℕ) → length s ≡ octets_of a words → octet_at a start + length s ≤ length store
    → stored_at a (laid store (octet_at a start) s) start words ≡ s
unfolding stored_at
stored_laid a store start words s long room =
    ap (λ (n : ℕ). between (octet_at a start) (octet_at a start + n) (laid store (octet_at a start) s)) (sym long)
    ∙ laid_read store (octet_at a start) s room

-- The words of an area in a store of octets are octets.
pub stored_octets : (a : Area) (store : List ℕ) (start words : ℕ) → Octets store → Octets (stored_at a store start words)
unfolding stored_at
stored_octets a store start words h = between_octets _ _ store h

-- So many octets the words of a dump are at the most.
pub dump_words_lem : (words : ℕ) → words ≤ dump_words → words * word_octets ≤ dump_octets
unfolding word_octets
dump_words_lem words h = omega arith

-- Words that lie in the store are so many octets.
pub stored_length : (a : Area) (store : List ℕ) (start words : ℕ) → octet_at a start + octets_of a words ≤ length store
    → length (stored_at a store start words) ≡ octets_of a words
unfolding stored_at
stored_length a store start words h = between-length (octet_at a start) (octet_at a start + octets_of a words) store (omega arith) h ∙ omega arith
