-- From the terminal's answer to what is said of a packet and of a line.
-- Assumes nothing.
use mathlib.Core.Path.{◌≡◌, refl, sym, ap, ap₂, ◌∙◌}
use mathlib.Core.Bool.{true, false}
use mathlib.Core.List.{List, ◌++◌}
use Prim.Native.Nat.{ℕ, ◌/◌, ◌≤◌}
use native.Mathlib.Omega.{arith}
use lib.ListN.{length, take, length-append}
use lib.Seq.{take_all, length-take-le}
use Rattle.octets.specs.Copy.{laid}
use Rattle.octets.proofs.Laid.{laid-length, laid_full, laid_front}
use Rattle.laws.proofs.Tests.{by-test}
use Rattle.laws.proofs.Order.{by_order}
use Rattle.map.specs.declared.Profile.{Profile}
use Rattle.terminal.specs.declared.Outcome.{Outcome}
use Rattle.terminal.specs.Outcome.{Input, verdict_on, frames_due, octets_due, out_after, store_on, Answered}
use Rattle.hexline.specs.declared.Written.{Written}
use Rattle.saying.specs.Text.{Says}
use Rattle.saying.proofs.Saying.{says_as}
use Rattle.packetline.specs.Packet.{is_packet, lines_of, closing, closing_of}
use Rattle.packetline.proofs.Packets.{packet_facts}
use Rattle.packetline.proofs.Cutting.{cut_most, closing-length}
use Rattle.hexline.specs.Line.{Station, packet_input, packet_most, packet_in, packet_answer, packet_after, line_answer, line_after}
use Rattle.hexline.specs.Whole.{answer_room}
use Rattle.characters.specs.Digits.{text_of, octets_in}
use Rattle.characters.proofs.Texts.{octets_length, decoded_front}
use Rattle.tm.specs.Frame.{cut}
use Rattle.hexline.specs.Said.{Said}
use Rattle.terminal.proofs.Due.{due_bounded, front_due, due-cut, verdict_due, written_due}

-- The frames that stand at the front of the output buffer after an answer, one a line.
pub due_lines : (i : Input) {r : Outcome} {store out : List ℕ} → Answered i r store out → lines_of (cut (take r.written out)) ≡ lines_of (frames_due i)
due_lines i {r = r} a =
    let written : r.written ≡ length (octets_due i) = ap (λ (o : Outcome). o.written) a.outcome_is ∙ written_due i in
    ap (λ (o : List ℕ). lines_of (cut o)) (ap₂ (λ (n : ℕ) (o : List ℕ). take n o) written a.out_is ∙ front_due i) ∙ ap lines_of (due-cut i)

module _ (p : Profile) (m : Station) (packet : List ℕ) where
  -- An answer has at most 16,384 characters.
  pub packet_answer_most : length (packet_answer p m packet) ≤ answer_room
  unfolding packet_answer
  packet_answer_most =
      let i : Input = packet_input p m packet in
      omega (
        arith,
        length-append (lines_of (frames_due i)) (closing_of (verdict_on i)),
        closing-length (verdict_on i),
        ap (λ (fs : List (List ℕ)). length (lines_of fs)) (due-cut i),
        cut_most (octets_due i),
        due_bounded i,
      )

  -- What goes on from a packet has the output buffer as the terminal leaves it.
  pub after_out : (packet_after p m packet).out ≡ out_after (packet_input p m packet)
  unfolding packet_after
  after_out = refl

  -- And the store.
  pub after_store : (packet_after p m packet).machine.store ≡ store_on (packet_input p m packet)
  unfolding packet_after
  after_store = refl

  -- What is said of a packet that the terminal answered, and what goes on from it.
  pub served_said : {answer : List ℕ} {at : ℕ} {text : List ℕ} {r : Outcome} {store out t : List ℕ} {end : ℕ} → Answered (packet_input p m packet) r store out
      → Says answer at text end t → Said answer (packet_after p m packet) at text (record { at = end; state = r.state }) store out t
  unfolding packet_after
  served_said a s = record { says = s; state_is = ap (λ (o : Outcome). o.state) a.outcome_is; store_is = a.store_is; out_is = a.out_is }

  -- The frames written one a line, and the closing line behind them.
  pub packet_said : {at : ℕ} {text : List ℕ} {r : Outcome} {store out t : List ℕ} {end : ℕ} → Answered (packet_input p m packet) r store out
      → Says (lines_of (cut (take r.written out)) ++ closing_of r.verdict) at text end t
      → Said (packet_answer p m packet) (packet_after p m packet) at text (record { at = end; state = r.state }) store out t
  unfolding packet_answer
  packet_said a f =
      let i : Input = packet_input p m packet in
      let v = ap (λ (o : Outcome). closing_of o.verdict) a.outcome_is ∙ ap closing_of (verdict_due i) in
      served_said a (says_as (ap₂ (λ (l k : List ℕ). l ++ k) (due_lines i a) v) f)

-- A line's packet stands at the front of a buffer of 2,048 octets that its octets were written to.
pub decoded : (line d packet : List ℕ) → length d ≡ packet_most → packet ≡ laid d 0 (octets_in line) → take (length line / 2) packet ≡ packet_in line
unfolding packet_in
decoded line d packet room f =
    let o : List ℕ = octets_in line in
    let n : ℕ = length line / 2 in
    let t : List ℕ = take packet_most o in
    ap (λ (r : List ℕ). take n r) f
    ∙ by_order n packet_most
    (λ few. decoded_front d line (omega arith) ∙ sym (take_all packet_most o (omega (arith, octets_length line))))
    (λ many.
    let size : length t ≡ packet_most = length-take-le packet_most o (omega (arith, octets_length line)) in
    take_all n (laid d 0 o) (omega (arith, laid-length d 0 o))
    ∙ sym (laid_full d 0 o packet_most (omega (arith, octets_length line)) (omega arith))
    ∙ sym (take_all (length t) (laid d 0 t) (omega (arith, laid-length d 0 t)))
    ∙ laid_front d t (omega arith))

-- A packet line's packet is all of its octets.
pub packet_in_lem : (line : List ℕ) → is_packet line ≡ true → packet_in line ≡ octets_in line
unfolding packet_in
packet_in_lem line good = take_all packet_most (octets_in line) (omega (arith, octets_length line, (packet_facts line good).2))

-- So of a packet line that was written to such a buffer, half as many octets as it has digits are its packet.
pub line_octets : (line d packet : List ℕ) → is_packet line ≡ true → length d ≡ packet_most → packet ≡ laid d 0 (octets_in line) → take (length line / 2) packet ≡ octets_in line
line_octets line d packet good room f = decoded line d packet room f ∙ packet_in_lem line good

module _ (p : Profile) (m : Station) (line : List ℕ) where
  -- 0200, and nothing changed.
  pub line_refused : (at end : ℕ) (text t : List ℕ) → is_packet line ≡ false → Says (closing 2 0) at text end t
      → Said (line_answer p m line) (line_after p m line) at text (record { at = end; state = m.machine.state }) m.machine.store m.out t
  unfolding line_answer line_after
  line_refused at end text t bad s = rw bad (record { says = s; state_is = refl; store_is = refl; out_is = refl })

  -- What is said of the packet is said of the line.
  pub line_served : {at : ℕ} {text : List ℕ} {r : Written} {store out t : List ℕ} → is_packet line ≡ true
      → Said (packet_answer p m (packet_in line)) (packet_after p m (packet_in line)) at text r store out t
      → Said (line_answer p m line) (line_after p m line) at text r store out t
  unfolding line_answer line_after
  line_served good s = rw (good, ← packet_in_lem line good) s

  pub line_answer_most : length (line_answer p m line) ≤ answer_room
  unfolding line_answer text_of
  line_answer_most =
      by-test (is_packet line) (λ t. rw t (packet_answer_most p m (octets_in line))) (λ e. rw e (omega arith))
