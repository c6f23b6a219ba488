-- What a line is told: which answer it has, and how long it is at most.
-- Assumes nothing.
use mathlib.Core.Path.{◌≡◌, refl, sym}
use mathlib.Core.Bool.{true, false}
use mathlib.Core.List.{List}
use Prim.Native.Nat.{ℕ, ◌≤◌, ◌<◌}
use native.Mathlib.Omega.{arith}
use lib.ListN.{length}
use Rattle.laws.proofs.Tests.{by-test}
use Rattle.characters.specs.Digits.{octets_in}
use Rattle.characters.proofs.Texts.{octets_length}
use Rattle.packetline.specs.Packet.{line_most, is_packet}
use Rattle.packetline.proofs.Packets.{packet_long, packet_facts}
use Rattle.hexline.specs.Whole.{answer_room}
use Rattle.frametext.specs.Text.{frame_text, bad_text}
use Rattle.frametext.proofs.Lengths.{frame_most}
use Rattle.frameline.specs.Line.{frame_says}

module _ (line : List ℕ) where
  -- A line that is no packet line, and one that is.
  pub says_bad : is_packet line ≡ false → frame_says line ≡ bad_text
  unfolding frame_says
  says_bad bad = rw bad refl

  pub says_frame : is_packet line ≡ true → frame_says line ≡ frame_text (octets_in line)
  unfolding frame_says
  says_frame good = rw good refl

  -- A line of more than 4,096 characters is no packet line.
  pub says_bad_long : line_most < length line → frame_says line ≡ bad_text
  says_bad_long h = says_bad (sym (packet_long line h))

  -- An answer has at most 16,384 characters.
  pub says_most : length (frame_says line) ≤ answer_room
  says_most =
      by-test (is_packet line)
      (λ t. rw (says_frame t) (frame_most (octets_in line) (omega (arith, octets_length line, (packet_facts line t).2))))
      (λ e. rw (says_bad e) (omega arith))
