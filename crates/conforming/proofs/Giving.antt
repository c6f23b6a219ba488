-- A line gives a frame just where it is a packet line whose octets agree with the frame's.
-- Assumes nothing.
use mathlib.Core.Path.{◌≡◌, refl, sym, ◌∙◌}
use mathlib.Core.Bool.{true, false}
use mathlib.Core.List.{List, [], ◌∷◌}
use Prim.Native.Nat.{ℕ, ◌≤◌}
use native.Mathlib.Omega.{arith}
use lib.ListN.{length, take, drop}
use Rattle.laws.proofs.Tests.{by-test}
use Rattle.characters.specs.Digits.{octets_in}
use Rattle.characters.proofs.Places.{all_digits}
use Rattle.characters.proofs.Texts.{octets_length}
use Rattle.tm.specs.Frame.{frame_head}
use Rattle.packetline.specs.Packet.{is_packet}
use Rattle.packetline.proofs.Packets.{packet_even, packet_facts}
use Rattle.beside.specs.Beside.{agrees}
use Rattle.beside.proofs.Agreeing.{agrees-length, octets_agree, timed-agrees, agrees_six, agrees-timed}
use Rattle.conforming.specs.Groups.{Line}
use Rattle.conforming.specs.Conforms.{Gives}

module _ (frame : List ℕ) (line : Line) (long : frame_head ≤ length frame) where
  -- The octets of a line that gives a frame agree with it.
  pub gives_agrees : Gives frame line → agrees frame (octets_in line) ≡ true
  gives_agrees g = timed-agrees frame (octets_in line) g.time (omega arith) g.six g.octets

  -- A packet line whose octets agree with a frame gives it.
  pub agrees_gives : is_packet line ≡ true → agrees frame (octets_in line) ≡ true → Gives frame line
  agrees_gives packet h =
      record {
        digits = packet;
        time = take 6 (drop 6 (octets_in line));
        six = agrees_six frame (octets_in line) (omega arith) h;
        octets = (agrees-timed frame (octets_in line) (omega arith) h).1;
      }

-- An empty line is a packet line.
pub empty_packet : is_packet [] ≡ true
empty_packet = sym (packet_even [] (omega arith) refl) ∙ all_digits [] (omega arith)

-- No frame and no octets agree.
pub none_agree : agrees [] (octets_in []) ≡ true
none_agree = octets_agree [] (octets_in []) (omega (arith, octets_length [])) (λ k b t. absurd (omega arith))

-- An empty line agrees with no frame.
pub empty-parts : (frame : List ℕ) → frame_head ≤ length frame → agrees frame (octets_in []) ≡ false
empty-parts frame long =
    by-test (agrees frame (octets_in []))
    (λ h. absurd (omega (arith, agrees-length frame (octets_in []) h, octets_length [])))
    (λ h. h)

-- So it gives none.
pub empty_gives_none : (frame : List ℕ) → frame_head ≤ length frame → Gives frame [] → ⊥
empty_gives_none frame long g =
    omega (arith, agrees-length frame (octets_in []) (gives_agrees frame [] long g), octets_length [])

-- Where no frame is due, no packet line but an empty one agrees.
pub more_parts : (c : ℕ) (line : Line) → is_packet (c ∷ line) ≡ true → agrees [] (octets_in (c ∷ line)) ≡ false
more_parts c line packet =
    by-test (agrees [] (octets_in (c ∷ line)))
    (λ h. absurd (omega (arith, agrees-length [] (octets_in (c ∷ line)) h, octets_length (c ∷ line), (packet_facts (c ∷ line) packet).1)))
    (λ h. h)
