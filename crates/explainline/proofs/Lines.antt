-- What a line is answered: which answer it has, and how long it is at most.
-- Assumes nothing.
use Rattle.std.specs.Prelude.{Ok, Err}
use mathlib.Core.Path.{◌≡◌, refl, sym}
use mathlib.Core.Bool.{true, false}
use mathlib.Core.List.{List, [], ◌∷◌, ◌++◌}
use Prim.Native.Nat.{ℕ, ◌+◌, ◌≤◌, ◌<◌}
use native.Mathlib.Omega.{arith}
use lib.ListN.{length, length-append}
use Rattle.laws.proofs.Tests.{by-test}
use Rattle.characters.specs.Digits.{text_of, octets_in}
use Rattle.lines.specs.Lines.{newline}
use Rattle.words.specs.Ascii.{ascii}
use Rattle.numerals.specs.Numbers.{decimal_of}
use Rattle.numerals.proofs.Decimals.{decimal_most}
use Rattle.packetline.specs.Packet.{line_most, is_packet}
use Rattle.packetline.proofs.Packets.{packet_long}
use Rattle.map.specs.declared.Profile.{Profile}
use Rattle.hexline.specs.Whole.{answer_room}
use Rattle.toldtext.specs.Told.{in_decimal}
use Rattle.explaining.specs.declared.Reason.{Reason}
use Rattle.explaining.specs.Explanation.{Explanation}
use Rattle.explaining.specs.Explanation.{explanation_of}
use Rattle.explainline.specs.Line.{reason_text, explanation_text, bad_text, explain_says}

-- A number behind a space and before more text.
part_most : (n : ℕ) (rest : List ℕ) → length (in_decimal (ascii " ") n ++ rest) ≤ 21 + length rest
part_most n rest = omega (arith, length-append (in_decimal (ascii " ") n) rest, length-append (ascii " ") (decimal_of n), decimal_most n)

reason_most : (r : Reason) → length (reason_text r) ≤ answer_room
unfolding reason_text
reason_most r =
    let fourth : List ℕ = in_decimal (ascii " ") r.last ++ newline ∷ [] in
    let third : List ℕ = in_decimal (ascii " ") r.first ++ fourth in
    let second : List ℕ = in_decimal (ascii " ") r.detail ++ third in
    omega (
      arith,
      length-append (decimal_of r.number) second,
      decimal_most r.number,
      part_most r.detail third,
      part_most r.first fourth,
      part_most r.last (newline ∷ []),
    )

explanation_most : (e : Explanation) → length (explanation_text e) ≤ answer_room
unfolding text_of
explanation_most (Ok _) = omega arith
explanation_most (Err r) = reason_most r

module _ (p : Profile) (line : List ℕ) where
  -- A line that is no packet line, and one that is.
  pub explain_bad : is_packet line ≡ false → explain_says p line ≡ bad_text
  unfolding explain_says
  explain_bad bad = rw bad refl

  pub explain_packet : is_packet line ≡ true → explain_says p line ≡ explanation_text (explanation_of p (octets_in line))
  unfolding explain_says
  explain_packet good = rw good refl

  -- A line of more than 4,096 characters is no packet line.
  pub explain_long : line_most < length line → explain_says p line ≡ bad_text
  explain_long h = explain_bad (sym (packet_long line h))

  -- An answer has at most 16,384 characters.
  pub explain_most : length (explain_says p line) ≤ answer_room
  unfolding text_of
  explain_most =
      by-test (is_packet line)
      (λ t. rw (explain_packet t) (explanation_most (explanation_of p (octets_in line))))
      (λ e. rw (explain_bad e) (omega arith))
