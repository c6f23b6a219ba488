-- From the terminal's answer to the record of a packet line, and what that record is.
-- Assumes nothing.
use mathlib.Core.Path.{◌≡◌, sym, ap, ap₂, ◌∙◌}
use mathlib.Core.Bool.{true}
use mathlib.Core.List.{List, [], ◌∷◌, ◌++◌, append_assoc}
use Prim.Native.Nat.{ℕ, ◌≤◌}
use native.Mathlib.Omega.{arith}
use lib.ListN.{length, take, length-append}
use Rattle.map.specs.declared.Profile.{Profile}
use Rattle.terminal.specs.declared.Outcome.{Outcome}
use Rattle.terminal.specs.Outcome.{Input, frames_due, octets_due, Answered}
use Rattle.terminal.proofs.Due.{due_bounded, due-cut}
use Rattle.tm.specs.Frame.{cut}
use Rattle.characters.specs.Digits.{upper_text, text_of, octets_in}
use Rattle.characters.proofs.Capitals.{upper_length, upper_text_lem}
use Rattle.lines.specs.Lines.{newline}
use Rattle.words.specs.Ascii.{ascii}
use Rattle.numerals.specs.Numbers.{decimal_of}
use Rattle.numerals.proofs.Decimals.{decimal_most}
use Rattle.saying.specs.Text.{line_of, Says}
use Rattle.saying.proofs.Saying.{says_as, says_append}
use Rattle.packetline.specs.Packet.{is_packet, lines_of}
use Rattle.packetline.proofs.Packets.{packet_facts}
use Rattle.packetline.proofs.Cutting.{cut_most}
use Rattle.hexline.specs.Line.{Station, packet_input, packet_in}
use Rattle.hexline.specs.Whole.{answer_room}
use Rattle.hexline.specs.Said.{Said}
use Rattle.hexline.proofs.Serving.{due_lines, served_said, packet_in_lem}
use Rattle.packline.specs.Record.{record_of, record_after, refused_at}

module _ (p : Profile) (m : Station) (line : List ℕ) where
  -- The line said in upper case, its packet's frames one a line, and the empty line behind them.
  pub record_said : {at : ℕ} {text : List ℕ} {r : Outcome} {store out t₀ t₁ t₂ : List ℕ} {behind first end : ℕ}
      → Says (upper_text line) at text behind t₀ → Says (newline ∷ []) behind t₀ first t₁
      → Answered (packet_input p m (packet_in line)) r store out
      → Says (lines_of (cut (take r.written out)) ++ newline ∷ []) first t₁ end t₂
      → Said (record_of p m line) (record_after p m line) at text (record { at = end; state = r.state }) store out t₂
  unfolding record_of
  record_said u n a f =
      served_said p m (packet_in line) a
      (says_as (ap (λ (l : List ℕ). upper_text line ++ (newline ∷ (l ++ newline ∷ []))) (due_lines (packet_input p m (packet_in line)) a)) (says_append u (says_append n f)))

  -- Of a packet line: the text of its octets, and the frames due for them.
  pub record_packet : is_packet line ≡ true
      → record_of p m line ≡ line_of (octets_in line) ++ (lines_of (frames_due (packet_input p m (octets_in line))) ++ newline ∷ [])
  unfolding record_of
  record_packet good =
      let facts = packet_facts line good in
      ap₂ (λ (u o : List ℕ). u ++ (newline ∷ (lines_of (frames_due (packet_input p m o)) ++ newline ∷ []))) (upper_text_lem line facts.0 facts.1) (packet_in_lem line good)
      ∙ sym (append_assoc (text_of (octets_in line)) (newline ∷ []) (lines_of (frames_due (packet_input p m (octets_in line))) ++ newline ∷ []))

  -- The record of a packet line has at most 16,384 characters.
  pub record_most : is_packet line ≡ true → length (record_of p m line) ≤ answer_room
  unfolding record_of
  record_most good =
      let i : Input = packet_input p m (packet_in line) in
      let frames : List ℕ = lines_of (frames_due i) in
      omega (
        arith,
        length-append (upper_text line) (newline ∷ (frames ++ newline ∷ [])),
        length-append frames (newline ∷ []),
        upper_length line,
        (packet_facts line good).2,
        ap (λ (fs : List (List ℕ)). length (lines_of fs)) (due-cut i),
        cut_most (octets_due i),
        due_bounded i,
      )

-- `refused 70` and a number take at most 32 characters.
pub refused_most : (n : ℕ) → length (refused_at n) ≤ 32
refused_most n = omega (arith, length-append (ascii "refused 70 ") (decimal_of n ++ newline ∷ []), length-append (decimal_of n) (newline ∷ []), decimal_most n)
