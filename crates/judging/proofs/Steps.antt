-- The judge beside a record's findings, line by line: where it stands outside of a group or inside of one, and where one line more leaves it.
-- Assumes nothing.
use mathlib.Core.Path.{◌≡◌, refl, sym, ap, ap₂, ◌∙◌}
use mathlib.Core.Bool.{true, false, false≢true}
use mathlib.Core.List.{List, [], ◌∷◌, ◌++◌}
use Prim.Native.Nat.{ℕ, zero, suc, ◌+◌, ◌≤◌, ◌<◌}
use native.Mathlib.Omega.{arith}
use lib.ListN.{length, take}
use lib.Dec.{ltb}
use borrow.Author.Tests.{le-leb, lt-leb, lt-ltb}
use Rattle.laws.proofs.Order.{by_order}
use Rattle.characters.specs.Digits.{octets_in}
use Rattle.lines.specs.Feed.{line_says, line_becomes}
use Rattle.tm.specs.Frame.{cut}
use Rattle.packetline.specs.Packet.{is_packet, line_most}
use Rattle.packetline.proofs.Packets.{packet_facts}
use Rattle.map.specs.declared.Profile.{Profile}
use Rattle.terminal.specs.Outcome.{Input, frames_due, octets_due, out_after}
use Rattle.terminal.proofs.Due.{due_bounded, front_due, due-cut}
use Rattle.hexline.specs.Line.{Station, packet_input, packet_in, packet_after}
use Rattle.hexline.proofs.Serving.{packet_in_lem, after_out}
use Rattle.packline.specs.declared.Halt.{Halt}
use Rattle.packline.specs.declared.Halt.TheVariants.{Long}
use Rattle.packline.specs.Record.{halt_of, refused_at}
use Rattle.telling.specs.Telling.{halt_line}
use Rattle.beside.specs.Beside.{agrees}
use Rattle.differing.specs.Differing.{differs_text}
use Rattle.conforming.specs.Conforms.{frames_for, after_tc}
use Rattle.conforming.specs.Findings.{first_of, rest_of}
use Rattle.conforming.specs.Verdict.{Differs, Refused70, concluded}
use Rattle.conforming.proofs.Giving.{empty_packet, more_parts}
use Rattle.grouping.specs.declared.Group.{Group}
use Rattle.grouping.specs.Group.{next_number, frame_room, left_at, due_at, compared}
use Rattle.grouping.proofs.Left.{due-first, due-none}
use Rattle.desk.specs.declared.Desk.{Desk}
use Rattle.desk.specs.Place.{Place, profile_at, station_at, counted, is_halted, at_desk, counting}
use Rattle.judgeline.specs.Step.{served_at, agreed_desk}
use Rattle.concluding.specs.Closing.{conforming_text, closing_says}
use Rattle.judgestep.specs.Step.{judge_says, judge_becomes}
use Rattle.judgeline.proofs.Lines.{outside_empty, outside_packet, outside_bad, inside_bad, inside-agrees, inside_differs}
use Rattle.concluding.proofs.Closing.{closing_some, closing-none}
use Rattle.judgestep.proofs.Judging.{cond-inside, cond_outside, long_going, stopped, long_stopped}
use Rattle.tasks.specs.declared.Task.TheVariants.{Judge}
use Rattle.tasks.specs.Tasks.{task_program}
use Rattle.judging.specs.Output.{told, reason_of, verdict_text}

-- What the judge says to a line, and what it becomes.
abbrev pub says : Place → List ℕ → List ℕ
says m line = line_says (task_program Judge) m line

abbrev pub becomes : Place → List ℕ → Place
becomes m line = line_becomes (task_program Judge) m line

-- ---- where the judge stands

-- Behind so many lines, packets and frames, outside of a group.
pub record Outside (p : Profile) (s : Station) (m : Place) (lines packets frames : ℕ) : Type 0 where
  pub profile_is : profile_at m ≡ p
  pub station_is : station_at m ≡ s
  pub going : is_halted m.desk ≡ false
  pub shut : m.desk.group.«open» ≡ false
  pub number_is : m.desk.number ≡ told lines
  pub some_is : m.desk.group.some ≡ ltb 0 packets
  pub packets_is : m.desk.group.packets ≡ told packets
  pub frames_is : m.desk.group.frames ≡ told frames

-- Inside of the group of the TC at a line, where some frames are still due.
pub record Inside (p : Profile) (s : Station) (m : Place) (lines packets frames tc : ℕ) (due : List (List ℕ)) : Type 0 where
  pub profile_is : profile_at m ≡ p
  pub station_is : station_at m ≡ s
  pub going : is_halted m.desk ≡ false
  pub ajar : m.desk.group.«open» ≡ true
  pub number_is : m.desk.number ≡ told lines
  pub some_is : m.desk.group.some ≡ ltb 0 packets
  pub packets_is : m.desk.group.packets ≡ told packets
  pub frames_is : m.desk.group.frames ≡ told frames
  pub packet_is : m.desk.group.packet ≡ told tc
  pub due_is : cut (left_at m.desk.group m.out) ≡ due
  pub room : length (take m.desk.group.end m.out) ≤ frame_room

-- One more, in 64 bits.
next : (n k : ℕ) → n ≡ told k → next_number n ≡ told (k + 1)
next n k e = omega (arith, e)

-- A line that is not too long, and one that is.
short_says : (m : Place) (line : List ℕ) → length line ≤ line_most → (says m line ≡ judge_says m line) × (becomes m line ≡ judge_becomes m line)
short_says m line h = rw (le-leb (length line) line_most h) (refl, refl)

-- ---- a line that is refused by 70

-- What is said of it, and the judge has stopped.
pub record Stopped (m : Place) (line said : List ℕ) : Type 0 where
  pub said_is : says m line ≡ said
  pub halted : is_halted (becomes m line).desk ≡ true

long_stops : (m : Place) (k : ℕ) (line : List ℕ) → is_halted m.desk ≡ false → m.desk.number ≡ told k → line_most < length line
    → Stopped m line (verdict_text (Refused70 (k + 1) line))
unfolding verdict_text
long_stops m k line going e h =
    let t = lt-leb (length line) line_most h in
    let l = long_going m.desk going in
    record {
      said_is = rw t (l.0 ∙ ap (λ (n : ℕ). refused_at n ++ halt_line Long) (next m.desk.number k e));
      halted = rw t (ap is_halted l.1);
    }

-- A line that is no packet line, where it is not too long: what is said of it and why the judge stops.
bad_stops : (m : Place) (k : ℕ) (line : List ℕ) → m.desk.number ≡ told k → length line ≤ line_most
    → judge_says m line ≡ refused_at (next_number m.desk.number) ++ halt_line (halt_of line) → is_halted (judge_becomes m line).desk ≡ true
    → Stopped m line (verdict_text (Refused70 (k + 1) line))
unfolding verdict_text
bad_stops m k line e h says_is halted =
    let short = short_says m line h in
    record {
      said_is = short.0 ∙ says_is ∙ ap (λ (n : ℕ). refused_at n ++ halt_line (halt_of line)) (next m.desk.number k e)
          ∙ ap (λ (r : Halt). refused_at (told (k + 1)) ++ halt_line r) (sym (reason line h));
      halted = ap (λ (x : Place). is_halted x.desk) short.1 ∙ halted;
    }
  where
    reason : (l : List ℕ) → length l ≤ line_most → reason_of l ≡ halt_of l
    reason l h = rw (le-leb (length l) line_most h) refl

-- ---- outside of a group

module _ (p : Profile) (s : Station) (m : Place) (k packets frames : ℕ) (o : Outside p s m k packets frames) where
  -- An empty line is passed over.
  pub outside_blank : (says m [] ≡ []) × Outside p s (becomes m []) (k + 1) packets frames
  outside_blank =
      let c = cond_outside m [] o.going o.shut in
      let e = outside_empty (counting m) [] refl in
      let there : judge_becomes m [] ≡ counting m = c.1 ∙ e.1 in (
        c.0 ∙ e.0,
        rw there (record {
          profile_is = o.profile_is;
          station_is = o.station_is;
          going = o.going;
          shut = o.shut;
          number_is = next m.desk.number k o.number_is;
          some_is = o.some_is;
          packets_is = o.packets_is;
          frames_is = o.frames_is;
        }),
      )

  -- A line that is no packet line is refused.
  pub outside_refused : (c : ℕ) (line : List ℕ) → is_packet (c ∷ line) ≡ false → Stopped m (c ∷ line) (verdict_text (Refused70 (k + 1) (c ∷ line)))
  outside_refused c line t =
      let l : List ℕ = c ∷ line in
      by_order (length l) line_most
      (λ h.
      let d = cond_outside m l o.going o.shut in
      let e = outside_bad (counting m) l (λ z. omega arith) t in
      bad_stops m k l o.number_is h (d.0 ∙ e.0) (ap (λ (x : Place). is_halted x.desk) (d.1 ∙ e.1)))
      (λ h. long_stops m k l o.going o.number_is h)

  -- A packet line opens a group: the frames due for it are due.
  pub outside_served : (c : ℕ) (line : List ℕ) → is_packet (c ∷ line) ≡ true
      → (says m (c ∷ line) ≡ []) × Inside p (after_tc p s (c ∷ line)) (becomes m (c ∷ line)) (k + 1) (packets + 1) frames (k + 1) (frames_for p s (c ∷ line))
  outside_served c line t =
      let l : List ℕ = c ∷ line in
      let short = short_says m l (packet_facts l t).2 in
      let d = cond_outside m l o.going o.shut in
      let e = outside_packet (counting m) l (λ z. omega arith) t in
      let there : becomes m l ≡ served_at (counting m) l = short.1 ∙ d.1 ∙ e.1 in
      let i : Input = packet_input (profile_at m) (station_at m) (packet_in l) in
      let same : i ≡ packet_input p s (octets_in l) = λ j. packet_input (o.profile_is j) (o.station_is j) (packet_in_lem l t j) in
      let out : (packet_after (profile_at m) (station_at m) (packet_in l)).out ≡ out_after i = after_out (profile_at m) (station_at m) (packet_in l) in
      let front : take (length (octets_due i)) (packet_after (profile_at m) (station_at m) (packet_in l)).out ≡ octets_due i =
      ap (λ (b : List ℕ). take (length (octets_due i)) b) out ∙ front_due i in (
        short.0 ∙ d.0 ∙ e.0,
        rw there (record {
          profile_is = o.profile_is;
          station_is = λ j. packet_after (o.profile_is j) (o.station_is j) (packet_in_lem l t j);
          going = o.going;
          ajar = refl;
          number_is = next m.desk.number k o.number_is;
          some_is = sym (lt-ltb 0 (packets + 1) (omega arith));
          packets_is = next m.desk.group.packets packets o.packets_is;
          frames_is = o.frames_is;
          packet_is = next m.desk.number k o.number_is;
          due_is = ap cut front ∙ due-cut i ∙ ap frames_due same;
          room = omega (arith, ap length front, due_bounded i);
        }),
      )

  -- What is said at the end of the input, where the judge stands outside of a group.
  pub outside_closing : closing_says m.desk ≡ verdict_text (concluded packets frames)
  unfolding verdict_text
  outside_closing = closing packets o.some_is o.packets_is
    where
      closing : (n : ℕ) → m.desk.group.some ≡ ltb 0 n → m.desk.group.packets ≡ told n → closing_says m.desk ≡ verdict_text (concluded n frames)
      closing zero e f = sym (closing-none m.desk o.going e).0
      closing (suc n) e f = sym (closing_some m.desk o.going (e ∙ lt-ltb 0 (suc n) (omega arith))).0 ∙ ap₂ conforming_text f o.frames_is

-- ---- inside of a group

module _ (p : Profile) (s : Station) (m : Place) (k packets frames tc : ℕ) (due : List (List ℕ)) (o : Inside p s m k packets frames tc due) where
  -- The frame at the desk is the first that is due, and behind it the rest are due.
  first_is : due_at m.desk.group m.out ≡ first_of due
  first_is =
      let g : Group = m.desk.group in
      by_order (length (left_at g m.out)) 0
      (λ h. let n = due-none g m.out (omega arith) in n.1 ∙ ap first_of (sym n.0 ∙ o.due_is))
      (λ h. ap first_of (sym (due-first g m.out o.room h) ∙ o.due_is))

  rest_is : 0 < length (left_at m.desk.group m.out) → cut (left_at (compared m.desk.group m.out) m.out) ≡ rest_of due
  rest_is h = ap rest_of (sym (due-first m.desk.group m.out o.room h) ∙ o.due_is)

  -- A line that is no packet line is refused.
  pub inside-refused : (line : List ℕ) → is_packet line ≡ false → Stopped m line (verdict_text (Refused70 (k + 1) line))
  inside-refused line t =
      by_order (length line) line_most
      (λ h.
      let d = cond-inside m line o.going o.ajar in
      let e = inside_bad (counted m.desk) m.out line t in
      bad_stops m k line o.number_is h (d.0 ∙ sym e.0) (ap (λ (x : Place). is_halted x.desk) d.1 ∙ ap is_halted (sym e.1)))
      (λ h. long_stops m k line o.going o.number_is h)

  module _ (line : List ℕ) (t : is_packet line ≡ true) where
    -- One that does not agree differs.
    pub inside_parted : agrees (first_of due) (octets_in line) ≡ false → Stopped m line (verdict_text (Differs (k + 1) tc (first_of due) line))
    unfolding verdict_text
    inside_parted a =
        let short = short_says m line (packet_facts line t).2 in
        let d = cond-inside m line o.going o.ajar in
        let e = inside_differs (counted m.desk) m.out line (first_of due) (sym first_is) t a in
        record {
          said_is = short.0 ∙ d.0 ∙ sym e.0 ∙ ap₂ (λ (n q : ℕ). differs_text n q (first_of due) line) (next m.desk.number k o.number_is) o.packet_is;
          halted = ap (λ (x : Place). is_halted x.desk) (short.1 ∙ d.1) ∙ ap is_halted (sym e.1);
        }

    -- One that agrees is passed over: nothing is said.
    agreed_there : agrees (first_of due) (octets_in line) ≡ true → (says m line ≡ []) × (becomes m line ≡ at_desk m (agreed_desk (counted m.desk) m.out line))
    agreed_there a =
        let short = short_says m line (packet_facts line t).2 in
        let d = cond-inside m line o.going o.ajar in
        let e = inside-agrees (counted m.desk) m.out line (first_of due) (sym first_is) t a in
        (short.0 ∙ d.0 ∙ sym e.0, short.1 ∙ d.1 ∙ ap (λ (x : Desk). at_desk m x) (sym e.1))

  -- The empty line that ends the group.
  pub inside-ended : agrees (first_of due) (octets_in []) ≡ true → (says m [] ≡ []) × Outside p s (becomes m []) (k + 1) packets frames
  inside-ended a =
      let e = agreed_there [] empty_packet a in (
        e.0,
        rw e.1 (record {
          profile_is = o.profile_is;
          station_is = o.station_is;
          going = o.going;
          shut = refl;
          number_is = next m.desk.number k o.number_is;
          some_is = o.some_is;
          packets_is = o.packets_is;
          frames_is = o.frames_is;
        }),
      )

  -- A TM line that gives the frame due.
  pub inside_given : (c : ℕ) (line : List ℕ) → is_packet (c ∷ line) ≡ true → agrees (first_of due) (octets_in (c ∷ line)) ≡ true
      → (says m (c ∷ line) ≡ []) × Inside p s (becomes m (c ∷ line)) (k + 1) packets (frames + 1) tc (rest_of due)
  inside_given c line t a =
      let e = agreed_there (c ∷ line) t a in
      let some : 0 < length (left_at m.desk.group m.out) = left_some c line t a in (
        e.0,
        rw e.1 (record {
          profile_is = o.profile_is;
          station_is = o.station_is;
          going = o.going;
          ajar = refl;
          number_is = next m.desk.number k o.number_is;
          some_is = o.some_is;
          packets_is = o.packets_is;
          frames_is = next m.desk.group.frames frames o.frames_is;
          packet_is = o.packet_is;
          due_is = rest_is some;
          room = o.room;
        }),
      )
    where
      left_some : (c : ℕ) (line : List ℕ) → is_packet (c ∷ line) ≡ true → agrees (first_of due) (octets_in (c ∷ line)) ≡ true → 0 < length (left_at m.desk.group m.out)
      left_some c line t a =
          by_order (length (left_at m.desk.group m.out)) 0
          (λ h.
          let n = due-none m.desk.group m.out (omega arith) in
          let none : first_of due ≡ [] = ap first_of (sym o.due_is ∙ n.0) in
          absurd (false≢true (sym (more_parts c line t) ∙ ap (λ (f : List ℕ). agrees f (octets_in (c ∷ line))) (sym none) ∙ a)))
          (λ h. h)

-- ---- a judge that has stopped

-- It says nothing to any line, and stays as it is.
pub still : (m : Place) (line : List ℕ) → is_halted m.desk ≡ true → (says m line ≡ []) × (becomes m line ≡ m)
still m line h =
    by_order (length line) line_most
    (λ few. let short = short_says m line few in let s = stopped m line h in (short.0 ∙ s.0, short.1 ∙ s.1))
    (λ many. let s = long_stopped m.desk h in rw (lt-leb (length line) line_most many) (s.0, ap (λ (d : Desk). at_desk m d) s.1))
