-- A line that spells a frame is a packet line, and its octets agree with the frame's.
-- Assumes nothing.
use mathlib.Core.Path.{◌≡◌, refl, sym, ap, ap₂, ◌∙◌}
use mathlib.Core.Bool.{true, ◌&&◌}
use mathlib.Core.List.{List, [], ◌∷◌, ◌++◌}
use Prim.Native.Nat.{ℕ, zero, suc, ◌*◌, ◌/◌, ◌%◌, ◌≤◌, ◌<◌}
use native.Mathlib.Omega.{arith}
use lib.ListN.{length, take, drop, take-append-drop, length-drop}
use lib.Seq.{length-take-le, drop-drop}
use lib.Dec.{eqb, leb, ltb}
use borrow.Author.Tests.{eqb-true, leb-true, ltb-true}
use Rattle.laws.proofs.Tests.{both}
use Rattle.octets.specs.Numbers.{Octets}
use Rattle.characters.specs.Digits.{digit_of, text_of, all_digits_of, octets_in}
use Rattle.characters.proofs.Digits.{text_length}
use Rattle.characters.proofs.Texts.{octets_length}
use Rattle.characters.proofs.Back.{text_digits, text_back, digits_append, octets_append}
use Rattle.tm.specs.Frame.{time_first, time_end, timed}
use Rattle.packetline.specs.Packet.{is_packet, line_most}
use Rattle.packetline.proofs.Packets.{packet_even}
use Rattle.beside.specs.Beside.{agrees}
use Rattle.beside.proofs.Agreeing.{timed-agrees}
use Rattle.spelling.specs.Spelling.{spelled, spelled_all, sized_for, spelled_apart, spells_frame}

-- ---- octets that are spelled

-- Two characters that spell an octet are its text.
spelled_facts : (x high low : ℕ) → spelled x high low ≡ true → (x < 256) × ((high ≡ digit_of (x / 16)) × (low ≡ digit_of x))
spelled_facts x high low h =
    let first = both (ltb x 256) (eqb high (digit_of (x / 16)) && eqb low (digit_of x)) h in
    let second = both (eqb high (digit_of (x / 16))) (eqb low (digit_of x)) first.1 in
    (ltb-true x 256 first.0, (eqb-true high (digit_of (x / 16)) second.0, eqb-true low (digit_of x) second.1))

-- A text of the same length that spells octets is their text, and they are octets.
spelled_text : (octets text : List ℕ) → length text ≡ 2 * length octets → spelled_all octets text ≡ true → (text ≡ text_of octets) × Octets octets
unfolding spelled_all text_of
spelled_text [] [] l h = (refl, λ k. omega arith)
spelled_text [] (c ∷ text) l h = absurd (omega arith)
spelled_text (x ∷ octets) [] l h = absurd (omega arith)
spelled_text (x ∷ octets) (c ∷ []) l h = absurd (omega arith)
spelled_text (x ∷ octets) (c ∷ d ∷ text) l h =
    let parts = both (spelled x c d) (spelled_all octets text) h in
    let here = spelled_facts x c d parts.0 in
    let more = spelled_text octets text (omega arith) parts.1 in
    (ap₂ (λ (a : ℕ) (r : List ℕ). a ∷ r) here.1.0 (ap₂ (λ (a : ℕ) (r : List ℕ). a ∷ r) here.1.1 more.0), one_more here.0 more.1)
  where
    one_more : x < 256 → Octets octets → Octets (x ∷ octets)
    one_more small rest zero = small
    one_more small rest (suc k) = rest k

-- ---- a line that spells a frame

-- What its length says.
pub record Sized (frame line : List ℕ) : Type 0 where
  pub long : time_end ≤ length frame
  pub most : length line ≤ line_most
  pub twice : length line ≡ 2 * length frame

pub sized_facts : (frame line : List ℕ) → sized_for frame line ≡ true → Sized frame line
unfolding sized_for
sized_facts frame line h =
    let first = both (leb time_end (length frame)) (leb (length line) line_most && (eqb (length line % 2) 0 && eqb (length line / 2) (length frame))) h in
    let second = both (leb (length line) line_most) (eqb (length line % 2) 0 && eqb (length line / 2) (length frame)) first.1 in
    let third = both (eqb (length line % 2) 0) (eqb (length line / 2) (length frame)) second.1 in
    let even : length line % 2 ≡ 0 = eqb-true (length line % 2) 0 third.0 in
    let half : length line / 2 ≡ length frame = eqb-true (length line / 2) (length frame) third.1 in
    record { long = leb-true time_end (length frame) first.0; most = leb-true (length line) line_most second.0; twice = omega arith }

module _ (frame line : List ℕ) (h : spells_frame frame line ≡ true) where
  sized : Sized frame line
  unfolding spells_frame
  sized = sized_facts frame line (both (sized_for frame line) (spelled_apart frame line) h).0

  apart : spelled_apart frame line ≡ true
  unfolding spells_frame
  apart = (both (sized_for frame line) (spelled_apart frame line) h).1

  -- It is the text of what stands before the time, twelve digits, and the text of what stands behind it.
  record Parts : Type 0 where
    head : take 12 line ≡ text_of (take time_first frame)
    head_octets : Octets (take time_first frame)
    digits : all_digits_of (take 12 (drop 12 line)) ≡ true
    tail : drop 24 line ≡ text_of (drop time_end frame)
    tail_octets : Octets (drop time_end frame)

  parts : Parts
  unfolding spelled_apart
  parts =
      let s : Sized frame line = sized in
      let first = both (spelled_all (take time_first frame) (take 12 line)) (all_digits_of (take 12 (drop 12 line)) && spelled_all (drop time_end frame) (drop 24 line)) apart in
      let second = both (all_digits_of (take 12 (drop 12 line))) (spelled_all (drop time_end frame) (drop 24 line)) first.1 in
      let front = spelled_text (take time_first frame) (take 12 line) (omega (arith, s.long, s.twice, length-take-le 12 line (omega (arith, s.long, s.twice)), length-take-le time_first frame (omega (arith, s.long)))) first.0 in
      let back = spelled_text (drop time_end frame) (drop 24 line) (omega (arith, s.long, s.twice, length-drop 24 line, length-drop time_end frame)) second.1 in
      record { head = front.0; head_octets = front.1; digits = second.0; tail = back.0; tail_octets = back.1 }

  time : List ℕ
  time = take 12 (drop 12 line)

  time_length : length (take 12 (drop 12 line)) ≡ 12
  time_length = length-take-le 12 (drop 12 line) (omega (arith, sized.long, sized.twice, length-drop 12 line))

  whole : line ≡ text_of (take time_first frame) ++ (take 12 (drop 12 line) ++ text_of (drop time_end frame))
  whole =
      sym (take-append-drop 12 line)
      ∙ ap₂ (λ (a b : List ℕ). a ++ b) parts.head
      (sym (take-append-drop 12 (drop 12 line)) ∙ ap (λ (r : List ℕ). take 12 (drop 12 line) ++ r) (drop-drop 12 12 line ∙ parts.tail))

  -- It is a packet line.
  pub spells_packet : is_packet line ≡ true
  spells_packet =
      let s : Sized frame line = sized in
      sym (packet_even line s.most (omega (arith, s.twice)))
      ∙ ap all_digits_of whole
      ∙ digits_append (text_of (take time_first frame)) (take 12 (drop 12 line) ++ text_of (drop time_end frame)) (text_digits (take time_first frame))
      (digits_append (take 12 (drop 12 line)) (text_of (drop time_end frame)) parts.digits (text_digits (drop time_end frame)))

  -- Its octets are the frame's, with a time of its own.
  octets_timed : octets_in line ≡ timed (octets_in (take 12 (drop 12 line))) frame
  octets_timed =
      let a : List ℕ = take time_first frame in
      let t : List ℕ = take 12 (drop 12 line) in
      let c : List ℕ = drop time_end frame in
      ap octets_in whole
      ∙ octets_append (text_of a) (t ++ text_of c) (omega (arith, text_length a))
      ∙ ap₂ (λ (x y : List ℕ). x ++ y) (text_back a parts.head_octets) (octets_append t (text_of c) (omega (arith, time_length)) ∙ ap (λ (r : List ℕ). octets_in t ++ r) (text_back c parts.tail_octets))

  -- They agree with the frame's.
  pub spells_agrees : agrees frame (octets_in line) ≡ true
  spells_agrees =
      timed-agrees frame (octets_in line) (octets_in (take 12 (drop 12 line))) sized.long (omega (arith, octets_length (take 12 (drop 12 line)), time_length)) octets_timed
