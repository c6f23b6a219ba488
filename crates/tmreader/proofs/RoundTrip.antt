-- What is laid out as a frame reads back, and what reads cleanly is the frame of what was read.
-- Assumes nothing.
use Rattle.std.specs.Prelude.{Ok}
use mathlib.Core.Path.{◌≡◌, refl, sym, ap, ap₂, subst, ◌∙◌}
use mathlib.Core.Bool.{true, ◌&&◌}
use mathlib.Core.List.{List, [], ◌∷◌, ◌++◌, append-nil}
use Prim.Native.Nat.{ℕ, ◌+◌, ◌-◌, ◌/◌, ◌%◌, ◌≤◌, ◌<◌}
use native.Mathlib.Omega.{arith}
use lib.ListN.{length, drop, length-drop}
use lib.Dec.{leb, eqb}
use lib.Seq.{take_all}
use borrow.Author.Tests.{le-leb, leb-true, eq-eqb, eqb-true}
use Rattle.laws.proofs.Tests.{both}
use Rattle.octets.specs.Numbers.{Octets, octet, word16, octets16}
use Rattle.octets.specs.Copy.{between}
use Rattle.octets.proofs.Octets.{octets_of, drop_octets, word16_small}
use Rattle.octets.proofs.Words.{octets16_of_word16, run, run_drop}
use Rattle.octets.proofs.Between.{between-eq}
use Rattle.fields.specs.Fields.{packet_id, id_of, sequence, control_of, apid_of}
use Rattle.checks.specs.Table.{AllHold}
use Rattle.counts.specs.Counts.{category_of}
use Rattle.counts.proofs.Counting.{category_small}
use Rattle.tm.specs.declared.Stamp.{Stamp}
use Rattle.tm.specs.Frame.{frame_head, uncounted, time_of, head_of, frame_of, frame_size}
use Rattle.tm.proofs.Frame.{frame_length, frame_size_lem}
use Rattle.contents.specs.Kinds.{is_known, type_of, subtype_of}
use Rattle.contents.specs.Source.{formed_if, contents_if}
use Rattle.contents.specs.Told.{Told, kind_told, source_of, Fits, told_if}
use Rattle.contents.proofs.Sources.{told_from, told-parts, told_kind, source_again, source_fits, fits_formed, fits_told, fits_known, fits_short, kind_again, known_type}
use Rattle.tmreader.specs.Reader.{is_clean, size_right, bits_right, head_right, kind_in, kind_right, source_in, source_right, frame_rows, judged, time_in, stamp_in, reading_of}
use Rattle.tmreader.specs.Telling.{stamp_for, frame_for, ReadsAs, StampFits, IsFrame}
use Rattle.tmreader.proofs.Judged.{judged_clean, clean_holds}

-- ---- what is laid out reads back

module _ (pid count : ℕ) (w : List ℕ) (t : Told) (p : pid < 128) (n : count < 16384) (fits : Fits t) where
  abbrev f : List ℕ
  f = frame_for pid count (time_of w) t

  long : length f ≡ frame_head + length (source_of t)
  long = frame_length (stamp_for pid count (time_of w) t) (source_of t) refl

  frame_size_right : size_right f ≡ true
  unfolding size_right
  frame_size_right =
      let short : length (source_of t) ≤ 488 = fits_short t fits in
      let size : length f ≡ frame_size f =
      sym (ap frame_size (sym (append-nil f)) ∙ frame_size_lem (stamp_for pid count (time_of w) t) (source_of t) [] refl (omega arith)) in
      simp (le-leb frame_head (length f) (omega (arith, long)), eq-eqb _ _ size)

  frame_head_right : head_right f ≡ true
  unfolding head_right bits_right frame_of head_of
  frame_head_right =
      let version : (packet_id (word16 f 0)).version ≡ 0 = omega arith in
      let kind : (packet_id (word16 f 0)).kind ≡ 0 = omega arith in
      let flag : (packet_id (word16 f 0)).header ≡ 1 = omega arith in
      let flags : (sequence (word16 f 2)).flags ≡ 3 = omega arith in
      simp (eq-eqb _ _ version, eq-eqb _ _ kind, eq-eqb _ _ flag, eq-eqb _ _ flags)

  frame_kind : kind_in f ≡ kind_told t
  unfolding frame_of head_of
  frame_kind = kind_again (kind_told t)

  frame_source : source_in f ≡ source_of t
  unfolding frame_of head_of
  frame_source = refl

  frame_kind_right : kind_right f ≡ true
  unfolding kind_right frame_of head_of
  frame_kind_right =
      let category : (packet_id (word16 f 0)).apid % 16 ≡ category_of (octet f 13) = omega (arith, category_small (type_of (kind_told t))) in
      let known : is_known (kind_in f) ≡ true = ap is_known frame_kind ∙ fits_known t fits in
      simp (known, eq-eqb _ _ category)

  frame_source_right : source_right f ≡ true
  frame_source_right = ap₂ formed_if frame_kind frame_source ∙ fits_formed t fits

  frame_clean : judged f ≡ Ok tt
  frame_clean = judged_clean f frame_size_right frame_head_right frame_kind_right frame_source_right

  frame_stamp : stamp_in f ≡ stamp_for pid count (time_of w) t
  unfolding stamp_in frame_of head_of
  frame_stamp =
      let whose : (packet_id (word16 f 0)).apid / 16 ≡ pid = omega (arith, category_small (type_of (kind_told t))) in
      let counted : (sequence (word16 f 2)).count ≡ count = omega arith in
      λ i. record { pid = whose i; count = counted i; time = time_of w; kind = type_of (kind_told t); subtype = subtype_of (kind_told t) }

  frame_told : told_if f (contents_if (kind_in f) (source_in f)) ≡ t
  frame_told =
      told-parts (kind_in f) f (omega (arith, long)) frame_source_right ∙ ap₂ told_from frame_kind frame_source ∙ fits_told t fits

  -- The frame of a process ID, a count and a time, and of what has room in it, reads as those.
  pub frame_reads : ReadsAs reading_of (stamp_for pid count (time_of w) t) t f
  unfolding reading_of
  frame_reads =
      let whole : between frame_head (length f) f ≡ source_of t =
      between-eq frame_head (length f) f (omega (arith, long)) (omega arith)
      ∙ take_all (length f - frame_head) (drop frame_head f) (omega (arith, length-drop frame_head f))
      ∙ frame_source in
      record {
        verdict = frame_clean;
        stamp = rw frame_clean frame_stamp;
        told = rw frame_clean frame_told;
        source = rw frame_clean whole;
      }

-- ---- what reads cleanly

-- What a clean frame's octets are, number by number.
record Facts (f : List ℕ) : Type 0 where
  least : frame_head ≤ length f
  total : length f ≡ word16 f 4 + uncounted
  version : (packet_id (word16 f 0)).version ≡ 0
  kind : (packet_id (word16 f 0)).kind ≡ 0
  flag : (packet_id (word16 f 0)).header ≡ 1
  flags : (sequence (word16 f 2)).flags ≡ 3
  zero_12 : octet f 12 ≡ 0
  zero_15 : octet f 15 ≡ 0
  known : is_known (kind_in f) ≡ true
  category : (packet_id (word16 f 0)).apid % 16 ≡ category_of (octet f 13)
  source : source_right f ≡ true

facts : (f : List ℕ) → judged f ≡ Ok tt → Facts f
unfolding frame_rows AllHold size_right head_right bits_right kind_right
facts f h =
    let rows : AllHold (frame_rows f) = clean_holds f (ap is_clean h) in
    let id = packet_id (word16 f 0) in
    let control = sequence (word16 f 2) in
    let sizes = both (leb frame_head (length f)) (eqb (length f) (frame_size f)) rows.0 in
    let h2 = both (bits_right id control && eqb (octet f 12) 0) (eqb (octet f 15) 0) rows.1.0 in
    let h1 = both (bits_right id control) (eqb (octet f 12) 0) h2.0 in
    let b3 = both (eqb id.version 0 && eqb id.kind 0 && eqb id.header 1) (eqb control.flags 3) h1.0 in
    let b2 = both (eqb id.version 0 && eqb id.kind 0) (eqb id.header 1) b3.0 in
    let b1 = both (eqb id.version 0) (eqb id.kind 0) b2.0 in
    let k = both (is_known (kind_in f)) (eqb (id.apid % 16) (category_of (octet f 13))) rows.1.1.0 in
    record {
      least = leb-true _ _ sizes.0;
      total = eqb-true _ _ sizes.1;
      version = eqb-true _ _ b1.0;
      kind = eqb-true _ _ b1.1;
      flag = eqb-true _ _ b2.1;
      flags = eqb-true _ _ b3.1;
      zero_12 = eqb-true _ _ h1.1;
      zero_15 = eqb-true _ _ h2.1;
      known = k.0;
      category = eqb-true _ _ k.1;
      source = rows.1.1.1.0;
    }

-- An APID put together from its process ID and its category.
apid_again : (a category : ℕ) → a < 2048 → a % 16 ≡ category → apid_of (a / 16) category ≡ a
apid_again a category small same = omega arith

mod_again : (x : ℕ) → id_of (record { version = 0; kind = 0; header = 1; apid = x % 2048 }) ≡ 2048 + x % 2048
mod_again x = omega arith

one_bit : (y bit : ℕ) → y < 2 → y % 2 ≡ bit → y ≡ bit
one_bit y bit small same = omega arith

halves : (x : ℕ) → x / 8192 ≡ 0 → x / 4096 < 2
halves x none = omega arith

quarters : (x : ℕ) → x / 4096 ≡ 0 → x / 2048 < 2
quarters x none = omega arith

whole_again : (x : ℕ) → x / 2048 ≡ 1 → 2048 + x % 2048 ≡ x
whole_again x one = omega arith

-- A packet ID of version 0, type bit 0 and header flag 1.
id_again : (x : ℕ) → x / 8192 ≡ 0 → x / 4096 % 2 ≡ 0 → x / 2048 % 2 ≡ 1 → 2048 + x % 2048 ≡ x
id_again x version kind flag =
    let half : x / 4096 < 2 = halves x version in
    let none : x / 4096 ≡ 0 = one_bit (x / 4096) 0 half kind in
    let quarter : x / 2048 < 2 = quarters x none in
    let one : x / 2048 ≡ 1 = one_bit (x / 2048) 1 quarter flag in
    whole_again x one

module _ (f : List ℕ) (o : Octets f) (h : judged f ≡ Ok tt) where
  k : Facts f
  k = facts f h

  clean_head : head_of (stamp_in f) (length (drop frame_head f)) ≡ run f 0 16
  unfolding head_of stamp_in run
  clean_head =
      let n : ℕ = (length (drop frame_head f) + frame_head - uncounted) % 65536 in
      let a : ℕ = (packet_id (word16 f 0)).apid / 16 in
      let apid : apid_of a (category_of (octet f 13)) ≡ word16 f 0 % 2048 = apid_again (word16 f 0 % 2048) (category_of (octet f 13)) (omega arith) k.category in
      let id : id_of (record { version = 0; kind = 0; header = 1; apid = apid_of a (category_of (octet f 13)) }) ≡ word16 f 0 =
      ap (λ (x : ℕ). id_of (record { version = 0; kind = 0; header = 1; apid = x })) apid
      ∙ mod_again (word16 f 0)
      ∙ id_again (word16 f 0) k.version k.kind k.flag in
      let control : control_of (record { flags = 3; count = (sequence (word16 f 2)).count }) ≡ word16 f 2 = omega (arith, k.flags) in
      let total : n ≡ word16 f 4 = omega (arith, k.total, k.least, length-drop frame_head f, word16_small f 4 o) in
      ap₂ (λ (x y : List ℕ). x ++ y ++ octets16 n ++ time_in f ++ 0 ∷ octet f 13 ∷ octet f 14 ∷ 0 ∷ [])
      (ap octets16 id ∙ octets16_of_word16 f 0 (o 0) (o 1))
      (ap octets16 control ∙ octets16_of_word16 f 2 (o 2) (o 3))
      ∙ ap (λ (x : List ℕ). octet f 0 ∷ octet f 1 ∷ octet f 2 ∷ octet f 3 ∷ [] ++ x ++ time_in f ++ 0 ∷ octet f 13 ∷ octet f 14 ∷ 0 ∷ [])
      (ap octets16 total ∙ octets16_of_word16 f 4 (o 4) (o 5))
      ∙ ap₂ (λ (x y : ℕ). octet f 0 ∷ octet f 1 ∷ octet f 2 ∷ octet f 3 ∷ octet f 4 ∷ octet f 5 ∷ time_in f ++ x ∷ octet f 13 ∷ octet f 14 ∷ y ∷ [])
      (sym k.zero_12) (sym k.zero_15)

  abbrev told : Told
  told = told_if f (contents_if (kind_in f) (source_in f))

  told_is : told ≡ told_from (kind_in f) (source_in f)
  told_is = told-parts (kind_in f) f k.least k.source

  clean_source : source_of told ≡ drop frame_head f
  clean_source = ap source_of told_is ∙ source_again (kind_in f) (source_in f) (drop_octets frame_head f o) k.source

  clean_whole : frame_of (stamp_in f) (source_of told) ≡ f
  unfolding frame_of
  clean_whole =
      ap (λ (s : List ℕ). head_of (stamp_in f) (length s) ++ s) clean_source
      ∙ ap (λ (x : List ℕ). x ++ drop frame_head f) clean_head
      ∙ sym (run_drop f 0 16 k.least)

  clean_type : (octet f 13 ≡ type_of (kind_told told)) × (octet f 14 ≡ subtype_of (kind_told told))
  clean_type =
      let same : kind_told told ≡ kind_in f = ap kind_told told_is ∙ told_kind (kind_in f) (source_in f) in
      let known = known_type (octet f 13) (octet f 14) k.known in
      (sym known.0 ∙ ap type_of (sym same), sym known.1 ∙ ap subtype_of (sym same))

  clean_stamp : stamp_for (stamp_in f).pid (stamp_in f).count (stamp_in f).time told ≡ stamp_in f
  unfolding stamp_in
  clean_stamp =
      λ i. record {
        pid = (packet_id (word16 f 0)).apid / 16;
        count = (sequence (word16 f 2)).count;
        time = time_in f;
        kind = sym clean_type.0 i;
        subtype = sym clean_type.1 i;
      }

  stamp_fits : StampFits (stamp_in f).pid (stamp_in f).count (stamp_in f).time
  unfolding stamp_in
  stamp_fits = record {
    of_7 = omega arith;
    of_14 = omega arith;
    six = refl;
    octets = octets_of (time_in f) (o 6, (o 7, (o 8, (o 9, (o 10, (o 11, tt))))));
  }

  told_fits : Fits told
  told_fits = subst Fits (sym told_is) (source_fits (kind_in f) (source_in f) (drop_octets frame_head f o) k.source)

-- Whatever reads cleanly is the frame of what was read, octet for octet.
pub clean_frame : (f : List ℕ) → Octets f → (reading_of f).verdict ≡ Ok tt → IsFrame reading_of f
unfolding reading_of stamp_in
clean_frame f o h =
    let stamp = clean_stamp f o h in
    record {
      whole = rw h (ap (λ (s : Stamp). frame_of s (source_of (told f o h))) stamp ∙ clean_whole f o h);
      kind = rw h (clean_type f o h).0;
      subtype = rw h (clean_type f o h).1;
      stamp = rw h (stamp_fits f o h);
      told = rw h (told_fits f o h);
    }
