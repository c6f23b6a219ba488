-- Source data both ways: what is right for a kind is the source data of what is read in it, and what has room in a report reads back.
-- Assumes nothing.
use Rattle.std.specs.Prelude.{Option, Some, None}
use mathlib.Core.Path.{◌≡◌, refl, sym, ap, ap₂, ◌∙◌}
use mathlib.Core.Bool.{true, ◌&&◌, false≢true}
use mathlib.Core.List.{List, [], ◌∷◌, ◌++◌}
use Prim.Native.Nat.{ℕ, ◌+◌, ◌*◌, ◌-◌, ◌≤◌}
use native.Mathlib.Omega.{arith}
use lib.ListN.{length, drop, length-append, length-drop}
use lib.Seq.{take_all, drop-drop}
use lib.Dec.{leb, eqb}
use borrow.Author.Tests.{le-leb, leb-true, eq-eqb, eqb-true}
use Rattle.laws.proofs.Tests.{both, by-test}
use Rattle.octets.specs.Numbers.{Octets, octet, word16, word32, octets16}
use Rattle.octets.specs.Copy.{between}
use Rattle.octets.proofs.Octets.{drop_octets, word16_small, word32_small}
use Rattle.octets.proofs.Words.{octets16_of_word16, octets32_of_word32, run, run_drop, run_all}
use Rattle.octets.proofs.Between.{between-eq}
use Rattle.tm.specs.Frame.{frame_head}
use Rattle.map.specs.Place.{word_octets, dump_words}
use Rattle.map.proofs.Octets.{dump_words_lem}
use Rattle.blocks.specs.Blocks.{first_place, block_count}
use Rattle.blocks.specs.Form.{blocks_most}
use Rattle.reports.specs.Source.{failure, dump_head, check_head}
use Rattle.contents.specs.declared.Kind.{Kind}
use Rattle.contents.specs.declared.Kind.TheVariants.{Acceptance, Failure, Completion, Dump, Check, Connection}
use Rattle.contents.specs.Kinds.{service_kind, memory_kind, kind_of, is_known, type_of, subtype_of}
use Rattle.contents.specs.Source.{dump_head_size, entry_size, entries_in, lengths_right_of, dump_formed, check_formed, formed_if, contents_if}
use Rattle.contents.specs.Told.{Told, acceptance, refusal, completion, dump, check, connection, nothing, kind_told, entries_laid, source_of, Fits, told_if}
use Rattle.contents.proofs.Numbers.{pair_octets, read16, entries_length, entries_again, entries_fit, entries_read, entries_right, laid-length}

-- What source data of a kind tells.
abbrev pub told_from : Option Kind → List ℕ → Told
told_from (Some Acceptance) s = acceptance (word16 s 0) (word16 s 2)
told_from (Some Failure) s = refusal (word16 s 0) (word16 s 2) (word16 s 4) (word16 s 6)
told_from (Some Completion) s = completion (word16 s 0) (word16 s 2)
told_from (Some Dump) s = dump (octet s 0) (word32 s 2) (word16 s 6) (drop dump_head_size s)
told_from (Some Check) s = check (octet s 0) (entries_in (block_count s) (drop first_place s))
told_from (Some Connection) s = connection
told_from None s = nothing

-- What right source data of (6,6) and of (6,10) keeps to.
pub record DumpFacts (s : List ℕ) : Type 0 where
  pub one : octet s 1 ≡ 1
  pub least : 1 ≤ word16 s 6
  pub most : word16 s 6 ≤ dump_words
  pub size : length s ≡ word16 s 6 * word_octets + dump_head_size

pub dump_facts : (s : List ℕ) → dump_formed s ≡ true → DumpFacts s
unfolding dump_formed
dump_facts s e =
    let s3 = both (eqb (octet s 1) 1 && leb 1 (word16 s 6) && leb (word16 s 6) dump_words) (eqb (length s) (word16 s 6 * word_octets + dump_head_size)) e in
    let s2 = both (eqb (octet s 1) 1 && leb 1 (word16 s 6)) (leb (word16 s 6) dump_words) s3.0 in
    let s1 = both (eqb (octet s 1) 1) (leb 1 (word16 s 6)) s2.0 in
    record { one = eqb-true _ _ s1.0; least = leb-true _ _ s1.1; most = leb-true _ _ s2.1; size = eqb-true _ _ s3.1 }

pub record CheckFacts (s : List ℕ) : Type 0 where
  pub least : 1 ≤ block_count s
  pub most : block_count s ≤ blocks_most
  pub size : length s ≡ block_count s * entry_size + first_place
  pub lengths : lengths_right_of (block_count s) (drop first_place s) ≡ true

pub check_facts : (s : List ℕ) → check_formed s ≡ true → CheckFacts s
unfolding check_formed
check_facts s e =
    let n : ℕ = block_count s in
    let s3 = both (leb 1 n && leb n blocks_most && eqb (length s) (n * entry_size + first_place)) (lengths_right_of n (drop first_place s)) e in
    let s2 = both (leb 1 n && leb n blocks_most) (eqb (length s) (n * entry_size + first_place)) s3.0 in
    let s1 = both (leb 1 n) (leb n blocks_most) s2.0 in
    record { least = leb-true _ _ s1.0; most = leb-true _ _ s1.1; size = eqb-true _ _ s2.1; lengths = s3.1 }

-- ---- parts of a frame

-- A part of a frame behind so many octets of its source data.
part_is : (f : List ℕ) (n : ℕ) → frame_head + n ≤ length f → between (frame_head + n) (frame_head + length (drop frame_head f)) f ≡ drop n (drop frame_head f)
part_is f n h =
    let end : frame_head + length (drop frame_head f) ≡ length f = omega (arith, length-drop frame_head f) in
    ap (λ (m : ℕ). between (frame_head + n) m f) end
    ∙ between-eq (frame_head + n) (length f) f h (omega arith)
    ∙ take_all (length f - (frame_head + n)) (drop (frame_head + n) f) (omega (arith, length-drop (frame_head + n) f))
    ∙ sym (drop-drop n frame_head f)

-- What the contents of a frame tell is what its source data tells.
pub told-parts : (k : Option Kind) (f : List ℕ) → frame_head ≤ length f → formed_if k (drop frame_head f) ≡ true
    → told_if f (contents_if k (drop frame_head f)) ≡ told_from k (drop frame_head f)
told-parts (Some Acceptance) f h e = refl
told-parts (Some Failure) f h e = refl
told-parts (Some Completion) f h e = refl
told-parts (Some Dump) f h e =
    let s : List ℕ = drop frame_head f in
    let size : length s ≡ word16 s 6 * word_octets + dump_head_size = (dump_facts s e).size in
    ap (λ (w : List ℕ). dump (octet s 0) (word32 s 2) (word16 s 6) w) (part_is f dump_head_size (omega (arith, size, length-drop frame_head f)))
told-parts (Some Check) f h e =
    let s : List ℕ = drop frame_head f in
    let size : length s ≡ block_count s * entry_size + first_place = (check_facts s e).size in
    ap (λ (w : List ℕ). check (octet s 0) (entries_in (block_count s) w)) (part_is f first_place (omega (arith, size, length-drop frame_head f)))
told-parts (Some Connection) f h e = refl
told-parts None f h e = refl

-- ---- what is right is the source data of what is read in it

pub told_kind : (k : Option Kind) (s : List ℕ) → kind_told (told_from k s) ≡ k
told_kind (Some Acceptance) s = refl
told_kind (Some Failure) s = refl
told_kind (Some Completion) s = refl
told_kind (Some Dump) s = refl
told_kind (Some Check) s = refl
told_kind (Some Connection) s = refl
told_kind None s = refl

echo_again : (s : List ℕ) → Octets s → length s ≡ 4 → octets16 (word16 s 0) ++ octets16 (word16 s 2) ≡ s
unfolding run
echo_again s o e = pair_octets s 0 o ∙ run_all s 4 e

failure_again : (s : List ℕ) → Octets s → length s ≡ 8 → (octets16 (word16 s 0) ++ octets16 (word16 s 2)) ++ failure (word16 s 4) (word16 s 6) ≡ s
unfolding run
failure_again s o e = ap₂ (λ (x y : List ℕ). x ++ y) (pair_octets s 0 o) (pair_octets s 4 o) ∙ run_all s 8 e

dump_again : (s : List ℕ) → Octets s → octet s 1 ≡ 1 → 8 ≤ length s → dump_head (octet s 0) (word32 s 2) (word16 s 6) ++ drop 8 s ≡ s
unfolding run
dump_again s o one long =
    ap₂ (λ (x y : List ℕ). (octet s 0 ∷ 1 ∷ x ++ y) ++ drop 8 s) (octets32_of_word32 s 2 o) (octets16_of_word16 s 6 (o 6) (o 7))
    ∙ ap (λ (x : ℕ). (octet s 0 ∷ x ∷ octet s 2 ∷ octet s 3 ∷ octet s 4 ∷ octet s 5 ∷ octet s 6 ∷ octet s 7 ∷ []) ++ drop 8 s) (sym one)
    ∙ sym (run_drop s 0 8 long)

check_again : (s : List ℕ) → Octets s → length s ≡ block_count s * entry_size + first_place
    → check_head (octet s 0) (length (entries_in (block_count s) (drop first_place s))) ++ entries_laid (entries_in (block_count s) (drop first_place s)) ≡ s
unfolding run
check_again s o size =
    let rest : List ℕ = drop first_place s in
    ap₂ (λ (n : ℕ) (x : List ℕ). check_head (octet s 0) n ++ x) (entries_length (block_count s) rest)
    (entries_again (block_count s) rest (drop_octets first_place s o) (length-drop first_place s ∙ omega (arith, size)))
    ∙ sym (run_drop s 0 2 (omega (arith, size)))

-- Source data that is right for a kind is laid out again by what is read in it.
pub source_again : (k : Option Kind) (s : List ℕ) → Octets s → formed_if k s ≡ true → source_of (told_from k s) ≡ s
source_again (Some Acceptance) s o e = echo_again s o (eqb-true _ _ e)
source_again (Some Failure) s o e = failure_again s o (eqb-true _ _ e)
source_again (Some Completion) s o e = echo_again s o (eqb-true _ _ e)
source_again (Some Dump) s o e = dump_again s o (dump_facts s e).one (omega (arith, (dump_facts s e).size))
source_again (Some Check) s o e = check_again s o (check_facts s e).size
source_again (Some Connection) [] o e = refl
source_again (Some Connection) (x ∷ s) o e = absurd (omega (arith, eqb-true (length (x ∷ s)) 0 e))
source_again None s o e = absurd (false≢true e)

-- And it has room in a report.
pub source_fits : (k : Option Kind) (s : List ℕ) → Octets s → formed_if k s ≡ true → Fits (told_from k s)
source_fits (Some Acceptance) s o e = (word16_small s 0 o, word16_small s 2 o)
source_fits (Some Failure) s o e = (word16_small s 0 o, word16_small s 2 o, word16_small s 4 o, word16_small s 6 o)
source_fits (Some Completion) s o e = (word16_small s 0 o, word16_small s 2 o)
source_fits (Some Dump) s o e =
    let f = dump_facts s e in
    record {
      id = o 0;
      from = word32_small s 2 o;
      least = f.least;
      most = f.most;
      filled = length-drop dump_head_size s ∙ omega (arith, f.size);
      octets = drop_octets dump_head_size s o;
    }
source_fits (Some Check) s o e =
    let f = check_facts s e in
    let n : length (entries_in (block_count s) (drop first_place s)) ≡ block_count s = entries_length (block_count s) (drop first_place s) in
    (o 0, omega (arith, f.least, n), omega (arith, f.most, n), entries_fit (block_count s) (drop first_place s) (drop_octets first_place s o) f.lengths)
source_fits (Some Connection) s o e = tt
source_fits None s o e = absurd (false≢true e)

-- ---- what has room reads back

-- Of what has room in a report: its source data is right for its kind.
pub fits_formed : (t : Told) → Fits t → formed_if (kind_told t) (source_of t) ≡ true
unfolding dump_formed check_formed
fits_formed (acceptance packet control) f = refl
fits_formed (refusal packet control code detail) f = refl
fits_formed (completion packet control) f = refl
fits_formed (dump memory start long words) f =
    let s : List ℕ = dump_head memory start long ++ words in
    let same : word16 s 6 ≡ long = read16 long in
    let size : length s ≡ word16 s 6 * word_octets + dump_head_size =
    length-append (dump_head memory start long) words ∙ ap (λ (n : ℕ). dump_head_size + n) (f.filled ∙ ap (λ (n : ℕ). n * word_octets) (sym same)) ∙ omega arith in
    simp (le-leb 1 (word16 s 6) (omega (arith, same, f.least)), le-leb (word16 s 6) dump_words (omega (arith, same, f.most)), eq-eqb _ _ size)
fits_formed (check memory entries) f =
    let size : length (check_head memory (length entries) ++ entries_laid entries) ≡ length entries * entry_size + first_place =
    length-append (check_head memory (length entries)) (entries_laid entries) ∙ omega (arith, laid-length entries) in
    simp (le-leb 1 (length entries) f.1, le-leb (length entries) blocks_most f.2, eq-eqb _ _ size, entries_right entries f.3)
fits_formed connection f = refl
fits_formed nothing f = absurd f

-- And it tells what it was laid out from.
pub fits_told : (t : Told) → Fits t → told_from (kind_told t) (source_of t) ≡ t
fits_told (acceptance packet control) f = ap₂ acceptance (read16 packet) (read16 control)
fits_told (refusal packet control code detail) f = λ i. refusal (read16 packet i) (read16 control i) (read16 code i) (read16 detail i)
fits_told (completion packet control) f = ap₂ completion (read16 packet) (read16 control)
fits_told (dump memory start long words) f =
    let from : word32 (dump_head memory start long ++ words) 2 ≡ start = omega (arith, f.from) in
    λ i. dump memory (from i) (read16 long i) words
fits_told (check memory entries) f = ap (check memory) (entries_read entries f.3)
fits_told connection f = refl
fits_told nothing f = absurd f

-- ---- kinds

-- The kind of the type and subtype of a kind is that kind.
pub kind_again : (k : Option Kind) → kind_of (type_of k) (subtype_of k) ≡ k
unfolding kind_of
kind_again (Some Acceptance) = refl
kind_again (Some Failure) = refl
kind_again (Some Completion) = refl
kind_again (Some Dump) = refl
kind_again (Some Check) = refl
kind_again (Some Connection) = refl
kind_again None = refl

service_type : (subtype : ℕ) → is_known (service_kind subtype) ≡ true → (type_of (service_kind subtype) ≡ 1) × (subtype_of (service_kind subtype) ≡ subtype)
service_type subtype h =
    by-test (eqb subtype 1)
    (λ a. rw a (refl, sym (eqb-true subtype 1 a)))
    (λ a.
    by-test (eqb subtype 2)
    (λ b. rw (a, b) (refl, sym (eqb-true subtype 2 b)))
    (λ b. by-test (eqb subtype 7) (λ c. rw (a, b, c) (refl, sym (eqb-true subtype 7 c))) (λ c. absurd (false≢true (rw (a, b, c) at h)))))

memory_type : (subtype : ℕ) → is_known (memory_kind subtype) ≡ true → (type_of (memory_kind subtype) ≡ 6) × (subtype_of (memory_kind subtype) ≡ subtype)
memory_type subtype h =
    by-test (eqb subtype 6)
    (λ a. rw a (refl, sym (eqb-true subtype 6 a)))
    (λ a. by-test (eqb subtype 10) (λ b. rw (a, b) (refl, sym (eqb-true subtype 10 b))) (λ b. absurd (false≢true (rw (a, b) at h))))

-- A kind that is known has the type and the subtype that it was found by.
pub known_type : (kind subtype : ℕ) → is_known (kind_of kind subtype) ≡ true → (type_of (kind_of kind subtype) ≡ kind) × (subtype_of (kind_of kind subtype) ≡ subtype)
unfolding kind_of
known_type kind subtype h =
    by-test (eqb kind 1)
    (λ a.
    let s = service_type subtype (rw a at h) in
    rw a (s.0 ∙ sym (eqb-true kind 1 a), s.1))
    (λ a.
    by-test (eqb kind 6)
    (λ b.
    let s = memory_type subtype (rw (a, b) at h) in
    rw (a, b) (s.0 ∙ sym (eqb-true kind 6 b), s.1))
    (λ b.
    by-test (eqb kind 17)
    (λ c.
    by-test (eqb subtype 2) (λ d. rw (a, b, c, d) (sym (eqb-true kind 17 c), sym (eqb-true subtype 2 d))) (λ d. absurd (false≢true (rw (a, b, c, d) at h))))
    (λ c. absurd (false≢true (rw (a, b, c) at h)))))

-- What has room in a report is of a known kind.
pub fits_known : (t : Told) → Fits t → is_known (kind_told t) ≡ true
fits_known (acceptance packet control) f = refl
fits_known (refusal packet control code detail) f = refl
fits_known (completion packet control) f = refl
fits_known (dump memory start long words) f = refl
fits_known (check memory entries) f = refl
fits_known connection f = refl
fits_known nothing f = absurd f

-- Its source data has at most 488 octets.
pub fits_short : (t : Told) → Fits t → length (source_of t) ≤ 488
fits_short (acceptance packet control) f = omega arith
fits_short (refusal packet control code detail) f = omega arith
fits_short (completion packet control) f = omega arith
fits_short (dump memory start long words) f = omega (arith, length-append (dump_head memory start long) words, f.filled, dump_words_lem long f.most)
fits_short (check memory entries) f =
    omega (arith, length-append (check_head memory (length entries)) (entries_laid entries), laid-length entries, f.2)
fits_short connection f = omega arith
fits_short nothing f = absurd f
