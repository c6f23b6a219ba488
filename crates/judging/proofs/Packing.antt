-- What `pack` prints, where it refuses no line, is a record that conforms.
-- Assumes nothing.
use mathlib.Core.Path.{◌≡◌, refl, sym, ap, subst, ◌∙◌}
use mathlib.Core.Bool.{true, false}
use mathlib.Core.List.{List, [], ◌∷◌, ◌++◌, map}
use Prim.Native.Nat.{ℕ, ◌+◌, ◌*◌, ◌≤◌, ◌<◌}
use native.Mathlib.Omega.{arith}
use lib.ListN.{length}
use borrow.Author.Tests.{le-leb}
use Rattle.laws.specs.Each.{Each}
use Rattle.laws.specs.Fold.{answers, joined}
use Rattle.octets.specs.Numbers.{Octets}
use Rattle.octets.proofs.Octets.{take_octets, zero_octets}
use Rattle.characters.specs.Digits.{text_of, octets_in}
use Rattle.characters.proofs.Digits.{text_length}
use Rattle.characters.proofs.Texts.{octets_length}
use Rattle.characters.proofs.Back.{text_digits, text_back, in_octets}
use Rattle.lines.specs.Lines.{lines_of}
use Rattle.lines.specs.Feed.{line_says, line_becomes, output_of}
use Rattle.tm.specs.Frame.{frame_head}
use Rattle.packetline.specs.Packet.{is_packet, line_most}
use Rattle.packetline.proofs.Packets.{packet_even, packet_facts}
use Rattle.packetline.proofs.Lines.{lines_record}
use Rattle.map.specs.declared.Profile.{Profile}
use Rattle.terminal.specs.Act.{dump_most}
use Rattle.terminal.specs.Outcome.{Input, frames_due}
use Rattle.framing.specs.Framing.{InOctets}
use Rattle.framing.proofs.Frames.{due_octets, due-short}
use Rattle.framing.proofs.Storing.{store_octets}
use Rattle.hexline.specs.Line.{Station, packet_input, packet_in, packet_after}
use Rattle.hexline.proofs.Serving.{packet_in_lem, after_store}
use Rattle.packline.specs.Record.{record_of}
use Rattle.packline.proofs.Records.{record_packet}
use Rattle.beside.specs.Beside.{agrees}
use Rattle.beside.proofs.Agreeing.{octets_agree}
use Rattle.conforming.specs.Groups.{Line, Group, Filled, groups_of}
use Rattle.conforming.specs.Conforms.{Gives, GiveAll, GroupsConform, Conforms, packets_in}
use Rattle.conforming.proofs.Giving.{agrees_gives}
use Rattle.conforming.proofs.Passing.{Long, frames-long}
use Rattle.conforming.proofs.Standing.{groups_ended}
use Rattle.desk.specs.Place.{Place, profile_at, station_at, counting, is_halted}
use Rattle.packstep.specs.Step.{pack_says, pack_becomes, record_becomes}
use Rattle.packstep.proofs.Packing.{pack_passes, pack_records}
use Rattle.tasks.specs.declared.Task.TheVariants.{Pack}
use Rattle.tasks.specs.Tasks.{task_program}
use Rattle.feeding.specs.Output.{unit_of, unit_behind, pack_first, packed, pack_output}
use Rattle.feeding.proofs.Units.{behind_octets}
use Rattle.clauses.proofs.Soundness.{clause_tells}
use Rattle.judging.specs.Output.{judge_output}
use Rattle.judging.specs.Printed.{unit_profile, unit_station, is_fit, ConformsUnder, SaysConforming}
use Rattle.judging.specs.Changed.{filled_in}
use Rattle.judging.proofs.Printing.{conforms_said}

-- ---- the lines of a group

-- The text of octets, not too many of them, is a packet line.
text_packet : (s : List ℕ) → length s ≤ 2048 → is_packet (text_of s) ≡ true
text_packet s h =
    let n : length (text_of s) ≡ 2 * length s = text_length s in
    sym (packet_even (text_of s) (omega arith) (omega arith)) ∙ text_digits s

-- It is no empty line, where there are octets.
text_filled : (s : List ℕ) → 1 ≤ length s → Filled (text_of s)
unfolding text_of
text_filled [] h = absurd (omega arith)
text_filled (x ∷ s) h = tt

-- The texts of frames give them.
text_gives : (f : List ℕ) → frame_head ≤ length f → length f ≤ dump_most → Octets f → Gives f (text_of f)
text_gives f long short octets =
    let back : octets_in (text_of f) ≡ f = text_back f octets in
    agrees_gives f (text_of f) long (text_packet f (omega arith))
    (ap (λ (s : List ℕ). agrees f s) back ∙ octets_agree f f refl (λ k b t. refl))

texts_give : (frames : List (List ℕ)) → Long frames → Each (λ (f : List ℕ). length f ≤ dump_most) frames → Each Octets frames → GiveAll frames (map text_of frames)
unfolding GiveAll
texts_give [] long short octets = tt
texts_give (f ∷ frames) long short octets = (text_gives f long.0 short.0 octets.0, texts_give frames long.1 short.1 octets.1)

texts_filled : (frames : List (List ℕ)) → Long frames → Each Filled (map text_of frames)
texts_filled [] long = tt
texts_filled (f ∷ frames) long = (text_filled f (omega (arith, long.0)), texts_filled frames long.1)

-- ---- one packet line

module _ (p : Profile) (s : Station) (c : ℕ) (l : Line) (good : is_packet (c ∷ l) ≡ true) (octets : Octets s.machine.store) where
  abbrev line : Line
  line = c ∷ l

  abbrev packet : List ℕ
  packet = octets_in (c ∷ l)

  abbrev frames : List (List ℕ)
  frames = frames_due (packet_input p s (octets_in (c ∷ l)))

  in_octets_all : InOctets (packet_input p s packet)
  in_octets_all = record { packet = in_octets (c ∷ l); store = octets; time = zero_octets 6 }

  -- The record of the line is a group, and what comes behind it other groups.
  record_groups : (rest : List ℕ) → groups_of (lines_of (record_of p s line ++ rest)) ≡ (text_of packet ∷ map text_of frames) ∷ groups_of (lines_of rest)
  record_groups rest =
      let facts = packet_facts (c ∷ l) good in
      ap groups_of (ap (λ (r : List ℕ). lines_of (r ++ rest)) (record_packet p s (c ∷ l) good) ∙ lines_record packet frames rest)
      ∙ groups_ended (text_of packet ∷ map text_of frames) (lines_of rest)
      (text_filled packet (omega (arith, octets_length (c ∷ l), facts.1)), texts_filled frames (frames-long p s (c ∷ l)))

  -- The packet's text states the packet.
  packet_back : octets_in (text_of packet) ≡ packet
  packet_back = text_back (octets_in (c ∷ l)) (in_octets (c ∷ l))

  -- The group conforms, where what comes behind it does.
  record_conforms : (rest : List ℕ) → Conforms p (packet_after p s (packet_in line)) (lines_of rest) → Conforms p s (lines_of (record_of p s line ++ rest))
  unfolding GroupsConform
  record_conforms rest more =
      let facts = packet_facts (c ∷ l) good in
      let i : Input = packet_input p s packet in
      let gives : GiveAll frames (map text_of frames) = texts_give frames (frames-long p s (c ∷ l)) (due-short i) (due_octets i in_octets_all) in
      let behind : GroupsConform p (packet_after p s packet) (groups_of (lines_of rest)) =
      subst (λ (o : List ℕ). GroupsConform p (packet_after p s o) (groups_of (lines_of rest))) (packet_in_lem (c ∷ l) good) more in
      subst (λ (gs : List Group). GroupsConform p s gs) (sym (record_groups rest)) (
        text_packet packet (omega (arith, octets_length (c ∷ l), facts.2)),
        (
          subst (λ (o : List ℕ). GiveAll (frames_due (packet_input p s o)) (map text_of frames)) (sym packet_back) gives,
          subst (λ (o : List ℕ). GroupsConform p (packet_after p s o) (groups_of (lines_of rest))) (sym packet_back) behind,
        ),
      )

  -- It has one packet.
  record_packets : (rest : List ℕ) → packets_in (groups_of (lines_of (record_of p s line ++ rest))) ≡ packets_in (groups_of (lines_of rest)) + 1
  unfolding packets_in
  record_packets rest = ap packets_in (record_groups rest)

  -- The store stays octets.
  record_octets : Octets (packet_after p s (packet_in line)).machine.store
  record_octets =
      subst (λ (o : List ℕ). Octets (packet_after p s o).machine.store) (sym (packet_in_lem (c ∷ l) good))
      (subst Octets (sym (after_store p s packet)) (store_octets (packet_input p s packet) in_octets_all))

-- ---- the packets of a file

-- What `pack` says to some lines.
abbrev printed_for : Place → List Line → List ℕ
printed_for m lines = joined (answers (line_says (task_program Pack)) (line_becomes (task_program Pack)) m lines)

-- It conforms, and has as many packets as there are lines that are not empty.
abbrev Fine : Profile → Station → List Line → List ℕ → Type 0
Fine p s lines text = Conforms p s (lines_of text) × (packets_in (groups_of (lines_of text)) ≡ filled_in lines)

printed_next : (m : Place) (l : Line) (ls : List Line) (said : List ℕ) (next : Place) → length l ≤ line_most → pack_says m l ≡ said → pack_becomes m l ≡ next
    → printed_for m (l ∷ ls) ≡ said ++ printed_for next ls
unfolding answers joined
printed_next m l ls said next h e f = rw (le-leb (length l) line_most h) (rw (e, f) refl)

packed-fine : (lines : List Line) (m : Place) → is_halted m.desk ≡ false → Octets m.store → Each (λ (l : Line). is_packet l ≡ true) lines
    → Fine (profile_at m) (station_at m) lines (printed_for m lines)
unfolding answers joined lines_of groups_of GroupsConform packets_in filled_in
packed-fine [] m going octets good = (tt, refl)
packed-fine ([] ∷ lines) m going octets good =
    let e = pack_passes m going in
    let next : printed_for m ([] ∷ lines) ≡ printed_for (counting m) lines = printed_next m [] lines [] (counting m) (omega arith) e.0 e.1 in
    subst (λ (t : List ℕ). Fine (profile_at m) (station_at m) ([] ∷ lines) t) (sym next) (packed-fine lines (counting m) going octets good.1)
packed-fine ((c ∷ l) ∷ lines) m going octets good =
    let p : Profile = profile_at m in
    let s : Station = station_at m in
    let e = pack_records m going c l good.0 in
    let there : Place = record_becomes (counting m) (c ∷ l) in
    let next : printed_for m ((c ∷ l) ∷ lines) ≡ record_of p s (c ∷ l) ++ printed_for there lines =
    printed_next m (c ∷ l) lines (record_of p s (c ∷ l)) there (packet_facts (c ∷ l) good.0).2 e.0 e.1 in
    let more : Fine p (packet_after p s (packet_in (c ∷ l))) lines (printed_for there lines) = packed-fine lines there going (record_octets p s c l good.0 octets) good.1 in
    subst (λ (t : List ℕ). Fine p s ((c ∷ l) ∷ lines) t) (sym next)
    (record_conforms p s c l good.0 octets (printed_for there lines) more.0, omega (arith, record_packets p s c l good.0 octets (printed_for there lines), more.1))

-- ---- what is printed for a unit file

-- For a unit that is fit, and packets of which no line is refused and at least one is not empty, what `pack` prints conforms.
pub pack_conforms : (file packets : List ℕ) → is_halted (unit_of file) ≡ false → is_fit (unit_of file) ≡ true
    → Each (λ (l : Line). is_packet l ≡ true) (lines_of packets) → 0 < filled_in (lines_of packets) → ConformsUnder file (pack_output file packets)
unfolding packed output_of
pack_conforms file packets stated fit good some =
    let fits = clause_tells (unit_of file).draft.profile (unit_of file).draft.stored ∙ fit in
    let start : Place = pack_first (unit_of file) (unit_behind file).store in
    let fine : Fine (unit_profile file) (unit_station file) (lines_of packets) (printed_for start (lines_of packets)) =
    packed-fine (lines_of packets) start refl (take_octets (unit_of file).draft.stored (unit_behind file).store (behind_octets file)) good in
    let as_printed : printed_for start (lines_of packets) ≡ pack_output file packets = rw (stated, fits) refl in
    let all = subst (λ (t : List ℕ). Fine (unit_profile file) (unit_station file) (lines_of packets) t) as_printed fine in
    record { stated = stated; fit = fit; some = omega (arith, all.1); conforms = all.0 }

-- So `judge` says that it does.
pub pack_said : (file packets : List ℕ) → is_halted (unit_of file) ≡ false → is_fit (unit_of file) ≡ true
    → Each (λ (l : Line). is_packet l ≡ true) (lines_of packets) → 0 < filled_in (lines_of packets) → SaysConforming (judge_output file (pack_output file packets))
pack_said file packets stated fit good some = conforms_said file (pack_output file packets) (pack_conforms file packets stated fit good some)
