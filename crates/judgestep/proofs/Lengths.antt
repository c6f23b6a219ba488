-- No answer of the judge has more than 16,384 characters.
-- Assumes nothing.
use mathlib.Core.Path.{◌≡◌, refl}
use mathlib.Core.List.{List, [], ◌∷◌}
use Prim.Native.Nat.{ℕ, ◌≤◌}
use native.Mathlib.Omega.{arith}
use lib.ListN.{length, length-append}
use Rattle.laws.proofs.Tests.{by-test}
use Rattle.packetline.specs.Packet.{is_packet}
use Rattle.packetline.proofs.Packets.{packet_facts}
use Rattle.hexline.specs.Whole.{answer_room}
use Rattle.packline.specs.declared.Halt.{Halt}
use Rattle.packline.specs.declared.Halt.TheVariants.{Long}
use Rattle.packline.specs.Record.{halt_of, refused_at}
use Rattle.packline.proofs.Records.{refused_most}
use Rattle.telling.specs.Telling.{halt_line}
use Rattle.telling.proofs.Lengths.{halt_line_most}
use Rattle.differing.proofs.Telling.{differs_most}
use Rattle.grouping.specs.Group.{next_number, due_at}
use Rattle.grouping.proofs.Left.{due_room}
use Rattle.desk.specs.declared.Desk.{Desk}
use Rattle.desk.specs.Place.{Place, counted, is_halted, counting}
use Rattle.judgestep.proofs.Judging.{stopped, cond-inside, cond_outside}
use Rattle.judgeline.specs.declared.Found.{Found}
use Rattle.judgeline.specs.declared.Found.TheVariants.{Agrees, Differs, Bad}
use Rattle.judgeline.specs.Step.{bad_says, outside_says, found_by, found_says, inside_says}
use Rattle.judgeline.proofs.Lines.{differs_packet}
use Rattle.judgestep.specs.Step.{judge_says, judge_long_says}

bad_most : (n : ℕ) (h : Halt) → length (bad_says n h) ≤ answer_room
bad_most n h = omega (arith, length-append (refused_at n) (halt_line h), refused_most n, halt_line_most h)

outside_most : (m : Place) (line : List ℕ) → length (outside_says m line) ≤ answer_room
unfolding outside_says
outside_most m [] = omega arith
outside_most m (c ∷ line) =
    by-test (is_packet (c ∷ line)) (λ t. rw t (omega arith)) (λ e. rw e (bad_most m.desk.number (halt_of (c ∷ line))))

found_most : (found : Found) (d : Desk) (out line : List ℕ) → found ≡ found_by d.group out line → length (found_says found d out line) ≤ answer_room
found_most Agrees d out line e = omega arith
found_most Differs d out line e =
    omega (arith, differs_most d.number d.group.packet (due_at d.group out) line, due_room d.group out, (packet_facts line (differs_packet d.group out line e)).2)
found_most Bad d out line e = bad_most d.number (halt_of line)

inside_most : (d : Desk) (out line : List ℕ) → length (inside_says d out line) ≤ answer_room
unfolding inside_says
inside_most d out line = found_most (found_by d.group out line) d out line refl

bounded : {said other : List ℕ} → said ≡ other → length other ≤ answer_room → length said ≤ answer_room
bounded e h = rw e h

pub judge_most : (m : Place) (line : List ℕ) → length (judge_says m line) ≤ answer_room
judge_most m line =
    by-test (is_halted m.desk) (λ t. bounded (stopped m line t).0 (omega arith))
    (λ h. by-test m.desk.group.«open»
    (λ o. bounded (cond-inside m line h o).0 (inside_most (counted m.desk) m.out line))
    (λ o. bounded (cond_outside m line h o).0 (outside_most (counting m) line)))

pub judge_long_most : (d : Desk) → length (judge_long_says d) ≤ answer_room
unfolding judge_long_says
judge_long_most d = by-test (is_halted d) (λ t. rw t (omega arith)) (λ h. rw h (bad_most (next_number d.number) Long))
