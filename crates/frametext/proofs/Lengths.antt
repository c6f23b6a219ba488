-- How long the line of a frame is at most.
-- Assumes nothing.
use Rattle.std.specs.Prelude.{Option, Some, None}
use mathlib.Core.Path.{◌≡◌}
use mathlib.Core.Bool.{true}
use mathlib.Core.List.{List, [], ◌∷◌, ◌++◌}
use Prim.Native.Nat.{ℕ, ◌+◌, ◌*◌, ◌≤◌}
use native.Mathlib.Omega.{arith}
use lib.ListN.{length, length-append, length-drop}
use Rattle.laws.proofs.Tests.{by-test}
use Rattle.octets.specs.Numbers.{octet, word16, word32, octets16, octets32}
use Rattle.octets.specs.Copy.{placed}
use Rattle.octets.proofs.Between.{between_most}
use Rattle.characters.specs.Digits.{text_of}
use Rattle.characters.proofs.Digits.{text_length}
use Rattle.lines.specs.Lines.{newline}
use Rattle.words.specs.Ascii.{ascii}
use Rattle.numerals.specs.Numbers.{decimal_of}
use Rattle.numerals.proofs.Decimals.{decimal_most}
use Rattle.tm.specs.declared.Stamp.{Stamp}
use Rattle.contents.specs.declared.Kind.{Kind}
use Rattle.contents.specs.declared.Kind.TheVariants.{Acceptance, Failure, Completion, Dump, Check, Connection}
use Rattle.contents.specs.declared.Entry.{Entry}
use Rattle.contents.specs.Source.{entries_in, formed_if, part_behind, contents_if}
use Rattle.contents.specs.Told.{told_if}
use Rattle.contents.proofs.Numbers.{entries_length}
use Rattle.contents.proofs.Sources.{check_facts}
use Rattle.tmreader.specs.Reader.{Verdict}
use Rattle.tmreader.specs.Reader.{is_clean, number_of, kind_in, source_in, judged, stamp_in, reading_of}
use Rattle.tmreader.proofs.Judged.{clean_source}
use Rattle.toldtext.specs.Told.{in_decimal, in_hex, echo_text, failure_text, block_text, entry_text, entries_text, told_text}
use Rattle.frametext.specs.Text.{stamp_text, refused_text, frame_text}

decimal_part : (word : List ℕ) (n : ℕ) → length (in_decimal word n) ≤ length word + 20
decimal_part word n = omega (arith, length-append word (decimal_of n), decimal_most n)

hex_part : (word s : List ℕ) → length (in_hex word s) ≡ length word + 2 * length s
hex_part word s = omega (arith, length-append word (text_of s), text_length s)

stamp_most : (s : Stamp) → length (stamp_text s) ≤ 2 * length s.time + 101
unfolding stamp_text
stamp_most s =
    let time : List ℕ = in_hex (ascii " time ") s.time in
    let count : List ℕ = in_decimal (ascii " count ") s.count in
    let pid : List ℕ = in_decimal (ascii ") pid ") s.pid in
    let subtype : List ℕ = in_decimal (ascii ",") s.subtype in
    let kind : List ℕ = in_decimal (ascii "(") s.kind in
    omega (
      arith,
      length-append kind (subtype ++ (pid ++ (count ++ time))),
      length-append subtype (pid ++ (count ++ time)),
      length-append pid (count ++ time),
      length-append count time,
      decimal_part (ascii "(") s.kind,
      decimal_part (ascii ",") s.subtype,
      decimal_part (ascii ") pid ") s.pid,
      decimal_part (ascii " count ") s.count,
      hex_part (ascii " time ") s.time,
    )

echo-length : (packet control : ℕ) → length (echo_text packet control) ≡ 25
echo-length packet control =
    omega (
      arith,
      length-append (in_hex (ascii " packet ") (octets16 packet)) (in_hex (ascii " control ") (octets16 control)),
      hex_part (ascii " packet ") (octets16 packet),
      hex_part (ascii " control ") (octets16 control),
    )

failure_most : (code detail : ℕ) → length (failure_text code detail) ≤ 54
failure_most code detail =
    omega (
      arith,
      length-append (in_decimal (ascii " code ") code) (in_decimal (ascii " detail ") detail),
      decimal_part (ascii " code ") code,
      decimal_part (ascii " detail ") detail,
    )

block_most : (start long : ℕ) → length (block_text start long) ≤ 43
block_most start long =
    omega (
      arith,
      length-append (in_hex (ascii " start ") (octets32 start)) (in_decimal (ascii " length ") long),
      hex_part (ascii " start ") (octets32 start),
      decimal_part (ascii " length ") long,
    )

entry_most : (e : Entry) → length (entry_text e) ≤ 52
entry_most e =
    omega (
      arith,
      length-append (block_text e.start e.length) (in_hex (ascii " crc ") (octets16 e.crc)),
      block_most e.start e.length,
      hex_part (ascii " crc ") (octets16 e.crc),
    )

entries_most : (es : List Entry) → length (entries_text es) ≤ 52 * length es
unfolding entries_text
entries_most [] = omega arith
entries_most (e ∷ es) = omega (arith, length-append (entry_text e) (entries_text es), entry_most e, entries_most es)

refusal_most : (packet control code detail : ℕ) → length (echo_text packet control ++ failure_text code detail) ≤ 79
refusal_most packet control code detail =
    omega (
      arith,
      length-append (echo_text packet control) (failure_text code detail),
      echo-length packet control,
      failure_most code detail,
    )

dump_most_lem : (memory start long : ℕ) (words : List ℕ) → length (in_decimal (ascii " memory ") memory ++ (block_text start long ++ in_hex (ascii " words ") words)) ≤ 2 * length words + 78
dump_most_lem memory start long words =
    omega (
      arith,
      length-append (in_decimal (ascii " memory ") memory) (block_text start long ++ in_hex (ascii " words ") words),
      length-append (block_text start long) (in_hex (ascii " words ") words),
      decimal_part (ascii " memory ") memory,
      block_most start long,
      hex_part (ascii " words ") words,
    )

check_most : (memory : ℕ) (es : List Entry) → length (in_decimal (ascii " memory ") memory ++ (in_decimal (ascii " blocks ") (length es) ++ entries_text es)) ≤ 52 * length es + 56
check_most memory es =
    omega (
      arith,
      length-append (in_decimal (ascii " memory ") memory) (in_decimal (ascii " blocks ") (length es) ++ entries_text es),
      length-append (in_decimal (ascii " blocks ") (length es)) (entries_text es),
      decimal_part (ascii " memory ") memory,
      decimal_part (ascii " blocks ") (length es),
      entries_most es,
    )

-- What source data that is right tells takes two characters for each of its octets, and at most 472 more.
told_most : (k : Option Kind) (f s : List ℕ) → formed_if k s ≡ true → length (told_text (told_if f (contents_if k s))) ≤ 2 * length s + 472
told_most (Some Acceptance) f s h = omega (arith, echo-length (word16 s 0) (word16 s 2))
told_most (Some Failure) f s h = omega (arith, refusal_most (word16 s 0) (word16 s 2) (word16 s 4) (word16 s 6))
told_most (Some Completion) f s h = omega (arith, echo-length (word16 s 0) (word16 s 2))
told_most (Some Dump) f s h =
    let words : List ℕ = placed (part_behind 8 s) f in
    omega (arith, dump_most_lem (octet s 0) (word32 s 2) (word16 s 6) words, between_most 24 (16 + length s) f)
told_most (Some Check) f s h =
    let es : List Entry = entries_in (octet s 1) (placed (part_behind 2 s) f) in
    omega (arith, check_most (octet s 0) es, entries_length (octet s 1) (placed (part_behind 2 s) f), (check_facts s h).most)
told_most (Some Connection) f s h = omega arith
told_most None f s h = omega arith

clean_most : (f : List ℕ) → is_clean (judged f) ≡ true → length (stamp_text (stamp_in f) ++ (told_text (told_if f (contents_if (kind_in f) (source_in f))) ++ newline ∷ [])) ≤ 2 * length f + 586
unfolding stamp_in
clean_most f h =
    let told : List ℕ = told_text (told_if f (contents_if (kind_in f) (source_in f))) in
    omega (
      arith,
      length-append (stamp_text (stamp_in f)) (told ++ newline ∷ []),
      length-append told (newline ∷ []),
      stamp_most (stamp_in f),
      told_most (kind_in f) f (source_in f) (clean_source f h),
      length-drop 16 f,
    )

refused_most : (v : Verdict) → length (refused_text v) ≤ 29
refused_most v =
    omega (
      arith,
      length-append (in_decimal (ascii "refused ") (number_of v)) (newline ∷ []),
      decimal_part (ascii "refused ") (number_of v),
    )

-- The line of a frame of up to 2,048 octets has at most 16,384 characters.
pub frame_most : (f : List ℕ) → length f ≤ 2048 → length (frame_text f) ≤ 16384
unfolding frame_text reading_of
frame_most f short =
    by-test (is_clean (judged f))
    (λ t. rw t (omega (arith, clean_most f t)))
    (λ e. rw e (omega (arith, refused_most (judged f))))
