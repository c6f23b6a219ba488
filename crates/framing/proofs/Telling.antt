-- What is told is what the reports due are made of, and it has room in them.
-- Assumes nothing.
use Rattle.std.specs.Prelude.{Some, None, Ok, Err, Option}
use mathlib.Core.Path.{◌≡◌, refl, sym, ap, ap₂, subst, ◌∙◌}
use mathlib.Core.Bool.{Bool, true, false, false≢true}
use mathlib.Core.List.{List, [], ◌∷◌, ◌++◌, map}
use Prim.Native.Nat.{ℕ, ◌+◌, ◌≤◌, ◌<◌}
use native.Mathlib.Omega.{arith}
use lib.ListN.{length, length-map}
use Rattle.laws.specs.Each.{Each}
use Rattle.laws.proofs.Each.{each_so, each_append, each_map}
use Rattle.laws.proofs.Tests.{by-test}
use Rattle.octets.specs.Numbers.{Octets, word16, octets16}
use Rattle.octets.proofs.Octets.{word16_small}
use Rattle.octets.proofs.Words.{run, run_take}
use Rattle.checks.specs.Table.{AllHold}
use Rattle.checks.specs.Verdict.{Verdict}
use Rattle.checks.specs.Verdict.{is_accepted, silent, number_of, detail_of}
use Rattle.checks.proofs.Numbers.{silent_refuses}
use Rattle.crc.proofs.Laws.{crc_lt}
use Rattle.tc.specs.Layout.{fields_of, application_of}
use Rattle.reader.proofs.Details.{application_octets}
use Rattle.tm.specs.Frame.{Report}
use Rattle.map.specs.declared.Area.{Area}
use Rattle.map.specs.declared.Profile.{Profile}
use Rattle.map.specs.Place.{dump_words, inside, octet_at, octets_of}
use Rattle.map.specs.Sound.{sound}
use Rattle.map.proofs.Finding.{found_sound}
use Rattle.map.proofs.Octets.{inside_store, octets_words, stored_length, stored_octets}
use Rattle.blocks.specs.declared.Block.{Block}
use Rattle.blocks.specs.Blocks.{first_place, memory_id, block_count, blocks_of}
use Rattle.blocks.proofs.Blocks.{Bounds, blocks_length, blocks_read}
use Rattle.blocks.proofs.Octets.{ReadIn, block_small}
use Rattle.blocks.proofs.WellFormed.{head_facts, right_bounds}
use Rattle.reports.specs.Source.{echo_of, check_head}
use Rattle.requests.specs.declared.Action.{Action}
use Rattle.requests.specs.declared.Action.TheVariants.{Load, Dump, Check}
use Rattle.requests.specs.declared.Request.TheVariants.{Memory as Asks, Connection as AsksConnection}
use Rattle.requests.specs.declared.Request.{Request}
use Rattle.requests.specs.Request.{carried_by, most_words, area_named}
use Rattle.requests.proofs.Outside.{all-inside}
use Rattle.contents.specs.declared.Entry.{Entry}
use Rattle.contents.proofs.Numbers.{pair_octets}
use Rattle.contents.specs.Told.{Told, entries_laid, report_of, EntryFits, Fits}
use Rattle.memory.specs.Memory.{stored_of, entry_of, entries_of}
use Rattle.laying.specs.Reports.{echo, failed, dumped, asked, asks_acceptance, asks_completion}
use Rattle.serving.specs.declared.Task.{Task}
use Rattle.serving.specs.declared.Task.TheVariants.{Idle, Memory, Connection}
use Rattle.serving.specs.Services.{Formed, memory_task}
use Rattle.addressing.specs.Requested.{service_rows, task_for, asked_by}
use Rattle.decide.specs.Table.{task_of}
use Rattle.decide.proofs.Decided.{accepted_facts, memory_facts}
use Rattle.decide.proofs.Details.{detail_small}
use Rattle.terminal.specs.Done.{memory_done, done}
use Rattle.terminal.specs.Outcome.{Input, done_by, reports_for, verdict_on, reports_on}
use Rattle.terminal.proofs.Answering.{accepted-due, refused-due, silent-due, heard_four}
use Rattle.framing.specs.Framing.{InOctets}
use Rattle.framing.specs.Reading.{dump_told, entry_told, memory_told, done_told, asked_told, acceptance_told, completion_told, refusal_told, accepted_told, told_on}
use Rattle.framing.proofs.Sources.{number_small}

-- Some things told are what some reports are made of, and have room in them.
pub record Tells (ts : List Told) (rs : List Report) : Type 0 where
  pub reports : map report_of ts ≡ rs
  pub fit : Each Fits ts

tells_none : Tells [] []
tells_none = record { reports = refl; fit = tt }

reports_append : (ts us : List Told) → map report_of (ts ++ us) ≡ map report_of ts ++ map report_of us
reports_append [] us = refl
reports_append (t ∷ ts) us = ap (λ (rs : List Report). report_of t ∷ rs) (reports_append ts us)

tells_append : {ts us : List Told} {rs ss : List Report} → Tells ts rs → Tells us ss → Tells (ts ++ us) (rs ++ ss)
tells_append {ts = ts} {us = us} a b = record {
  reports = reports_append ts us ∙ ap₂ (λ (x y : List Report). x ++ y) a.reports b.reports;
  fit = each_append Fits ts us a.fit b.fit;
}

tells_asked : (asks : Bool) {t : Told} {r : Report} → Tells (t ∷ []) (r ∷ []) → Tells (asked_told asks t) (asked asks r)
tells_asked true h = h
tells_asked false h = tells_none

-- ---- service 1

module _ (packet : List ℕ) (o : Octets packet) (four : 4 ≤ length packet) where
  -- What is repeated of a packet is its packet ID and sequence control.
  echo_is : octets16 (word16 packet 0) ++ octets16 (word16 packet 2) ≡ echo_of packet
  unfolding run
  echo_is = pair_octets packet 0 o ∙ sym (run_take packet 0 4 four)

  tells_acceptance : Tells (acceptance_told packet ∷ []) (echo 1 packet ∷ [])
  tells_acceptance = record {
    reports = ap (λ (s : List ℕ). record { kind = 1; subtype = 1; source = s } ∷ []) echo_is;
    fit = ((word16_small packet 0 o, word16_small packet 2 o), tt);
  }

  tells_completion : Tells (completion_told packet ∷ []) (echo 7 packet ∷ [])
  tells_completion = record {
    reports = ap (λ (s : List ℕ). record { kind = 1; subtype = 7; source = s } ∷ []) echo_is;
    fit = ((word16_small packet 0 o, word16_small packet 2 o), tt);
  }

  tells_refusal : (v : Verdict) → detail_of v < 65536 → Tells (refusal_told v packet ∷ []) (failed v packet ∷ [])
  tells_refusal v small = record {
    reports = ap (λ (s : List ℕ). record { kind = 1; subtype = 2; source = s ++ (octets16 (number_of v) ++ octets16 (detail_of v)) } ∷ []) echo_is;
    fit = ((word16_small packet 0 o, word16_small packet 2 o, number_small v, small), tt);
  }

-- ---- service 6

-- What is known of a block of an accepted packet: its form, where it was read, and that it lies in the store.
record Served (a : Area) (limit octets carried : ℕ) (d : List ℕ) (b : Block) : Type 0 where
  bounds : Bounds limit (length d) b
  read : ReadIn carried d b
  room : octet_at a b.start + octets_of a b.words ≤ octets

module _ (a : Area) (d store : List ℕ) (o : Octets d) (l : Octets store) where
  block_fits : (b : Block) → Served a dump_words (length store) (carried_by Dump) d b → Fits (dump_told a (memory_id d) store b)
  block_fits b s = record {
    id = o 0;
    from = (block_small d o (carried_by Dump) b s.read).0;
    least = s.bounds.least;
    most = s.bounds.most;
    filled = stored_length a store b.start b.words s.room ∙ octets_words a b.words;
    octets = stored_octets a store b.start b.words l;
  }

  entry_fits : (limit : ℕ) (b : Block) → Served a limit (length store) (carried_by Check) d b → EntryFits (entry_told a store b)
  entry_fits limit b s = record {
    start = (block_small d o (carried_by Check) b s.read).0;
    least = s.bounds.least;
    length = (block_small d o (carried_by Check) b s.read).1;
    crc = crc_lt (stored_of a store b);
  }

  dumps_reports : (bs : List Block) → map report_of (map (dump_told a (memory_id d) store) bs) ≡ map (dumped a (memory_id d) store) bs
  dumps_reports [] = refl
  dumps_reports (b ∷ bs) = ap (λ (rs : List Report). dumped a (memory_id d) store b ∷ rs) (dumps_reports bs)

  entries_laid_lem : (bs : List Block) → entries_laid (map (entry_told a store) bs) ≡ entries_of a store bs
  unfolding entries_laid entries_of
  entries_laid_lem [] = refl
  entries_laid_lem (b ∷ bs) = ap (λ (s : List ℕ). entry_of a store b ++ s) (entries_laid_lem bs)

  tells_memory : (action : Action) → Formed action d
      → Each (Served a (most_words action) (length store) (carried_by action) d) (blocks_of (carried_by action) d)
      → Tells (memory_told a action d store) (memory_done a action d store).reports
  tells_memory Load formed s = tells_none
  tells_memory Dump formed s =
      let bs : List Block = blocks_of (carried_by Dump) d in
      record { reports = dumps_reports bs; fit = each_map Fits (dump_told a (memory_id d) store) bs (each_so bs (λ b h. block_fits b h) s) }
  tells_memory Check formed s =
      let bs : List Block = blocks_of (carried_by Check) d in
      let es : List Entry = map (entry_told a store) bs in
      let n : length es ≡ block_count d = length-map bs (entry_told a store) ∙ blocks_length (carried_by Check) d (block_count d) first_place in
      let head = head_facts d formed.0 in
      record {
        reports =
            ap₂ (λ (m : ℕ) (s : List ℕ). record { kind = 6; subtype = 10; source = check_head (memory_id d) m ++ s } ∷ []) n (entries_laid_lem bs);
        fit = (
          (o 0, omega (arith, n, head.some), omega (arith, n, head.few), each_map EntryFits (entry_told a store) bs (each_so bs (λ b h. entry_fits (most_words Check) b h) s)),
          tt,
        );
      }

-- ---- an accepted packet

-- The blocks of a task of service 6 are served.
abbrev ServedFor : Task → ℕ → List ℕ → Type 0
ServedFor Idle octets d = Unit
ServedFor (Memory job) octets d =
    Formed job.action d × Each (Served job.area (most_words job.action) octets (carried_by job.action) d) (blocks_of (carried_by job.action) d)
ServedFor Connection octets d = Unit

all_served : (a : Area) (limit octets carried : ℕ) (d : List ℕ) (bs : List Block) → ((b : Block) → inside a b.start b.words ≡ true → octet_at a b.start + octets_of a b.words ≤ octets)
    → Each (Bounds limit (length d)) bs → Each (ReadIn carried d) bs → Each (λ (b : Block). inside a b.start b.words ≡ true) bs → Each (Served a limit octets carried d) bs
all_served a limit octets carried d [] room x y z = tt
all_served a limit octets carried d (b ∷ bs) room x y z =
    (record { bounds = x.0; read = y.0; room = room b z.0 }, all_served a limit octets carried d bs room x.1 y.1 z.1)

served_memory : (found : Option Area) (action : Action) (octets : ℕ) (d : List ℕ)
    → ((a : Area) → found ≡ Some a → Formed action d × Each (Served a (most_words action) octets (carried_by action) d) (blocks_of (carried_by action) d))
    → ServedFor (memory_task found action) octets d
served_memory (Some a) action octets d h = h a refl
served_memory None action octets d h = tt

served_for : (p : Profile) (asked : Option Request) (octets : ℕ) (d : List ℕ) → sound p octets ≡ true → AllHold (service_rows p asked d) → ServedFor (task_for p asked d) octets d
served_for p (Some (Asks action)) octets d s all =
    let m = memory_facts p action d all in
    let bs : List Block = blocks_of (carried_by action) d in
    served_memory (area_named p d) action octets d
    (λ a named.
    let same : m.area ≡ a = cc (m.named, named) in
    let sure = found_sound p octets (memory_id d) a s named in (
      m.formed,
      all_served a (most_words action) octets (carried_by action) d bs
          (λ b h. inside_store octets a b.start b.words sure h)
          (right_bounds (carried_by action) (most_words action) d m.formed.1)
          (blocks_read (carried_by action) d (block_count d) first_place)
          (all-inside a bs (rw (sym same) m.inside)),
    ))
served_for p (Some AsksConnection) octets d s all = tt
served_for p None octets d s all = tt

tells_done : (t : Task) (d store : List ℕ) → Octets d → Octets store → ServedFor t (length store) d → Tells (done_told t d store) (done t d store).reports
tells_done Idle d store o l s = tells_none
tells_done (Memory job) d store o l s = tells_memory job.area d store o l job.action s.0 s.1
tells_done Connection d store o l s = record { reports = refl; fit = (tt, tt) }

-- An accepted packet is answered.
accepted_heard : (v : Verdict) → is_accepted v ≡ true → silent v ≡ false
accepted_heard (Ok _) h = refl
accepted_heard (Err r) h = absurd (false≢true h)

module _ (i : Input) (h : InOctets i) where
  tells_accepted : is_accepted (verdict_on i) ≡ true → Tells (accepted_told i) (reports_on i)
  unfolding accepted_told reports_for
  tells_accepted accepted =
      let packet : List ℕ = i.packet in
      let ack : ℕ = (fields_of packet).ack in
      let facts = accepted_facts i.profile i.state (length i.store) (length i.out) packet accepted in
      let four : 4 ≤ length packet = heard_four i (accepted_heard (verdict_on i) accepted) in
      let all : Tells (accepted_told i) (reports_for ack packet (done_by i.profile packet i.store).reports) =
      tells_append (tells_asked (asks_acceptance ack) (tells_acceptance packet h.packet four))
      (tells_append
      (tells_done (task_of i.profile packet) (application_of packet) i.store (application_octets packet h.packet) h.store
      (served_for i.profile (asked_by (fields_of packet)) (length i.store) (application_of packet) facts.caller.sound facts.service))
      (tells_asked (asks_completion ack) (tells_completion packet h.packet four))) in
      subst (Tells (accepted_told i)) (accepted-due i accepted) all

  -- What is told on an input is what the reports due are made of, and has room in them.
  pub told-due : Tells (told_on i) (reports_on i)
  unfolding told_on
  told-due =
      by-test (is_accepted (verdict_on i))
      (λ accepted. rw accepted (tells_accepted accepted))
      (λ refused.
      by-test (silent (verdict_on i))
      (λ quiet. rw (refused, quiet) (subst (Tells []) (silent-due i refused quiet) tells_none))
      (λ heard.
      rw (refused, heard)
      (subst (Tells (refusal_told (verdict_on i) i.packet ∷ [])) (refused-due i refused heard)
      (tells_refusal i.packet h.packet (heard_four i heard) (verdict_on i)
      (detail_small i.packet h.packet i.profile i.state (length i.store) (length i.out))))))

-- Where nothing is answered, nothing is told.
pub quiet_told : (i : Input) → silent (verdict_on i) ≡ true → told_on i ≡ []
unfolding told_on
quiet_told i quiet = rw (silent_refuses (verdict_on i) quiet, quiet)
