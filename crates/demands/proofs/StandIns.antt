-- Each family of wrong terminals, readers and writers fails a demand; two of them have demand 3's agreement all the same.
-- Assumes nothing.
use Rattle.std.specs.Prelude.{Err, Ok}
use mathlib.Core.Path.{◌≡◌, refl, sym, ap, subst, ◌∙◌}
use mathlib.Core.Bool.{true, false, false≢true}
use mathlib.Core.Logic.{inl}
use mathlib.Core.List.{List, [], ◌∷◌, ◌++◌}
use Prim.Native.Nat.{ℕ, ◌+◌, ◌≤◌}
use native.Mathlib.Omega.{arith}
use lib.ListN.{length, replicate}
use Rattle.laws.specs.Fold.{answers}
use Rattle.octets.specs.Numbers.{octet}
use Rattle.octets.specs.declared.copy.Span.{Span}
use Rattle.octets.specs.Copy.{laid, placed}
use Rattle.octets.proofs.Laid.{laid_elsewhere, laid-inside}
use Rattle.checks.specs.declared.Refusal.{Refusal}
use Rattle.checks.specs.Verdict.{Verdict}
use Rattle.checks.specs.Verdict.{is_accepted}
use Rattle.reader.specs.Reader.{reader_rows, judged, reading_of}
use Rattle.tc.specs.declared.Method.TheVariants.{Crc}
use Rattle.writer.specs.declared.Order.{Order}
use Rattle.writer.specs.Writer.{Written}
use Rattle.writer.specs.declared.WriteError.TheVariants.{BadField, BadData, NoRoom}
use Rattle.writer.specs.Writer.{written_number, is_packet}
use Rattle.map.specs.declared.Profile.{Profile}
use Rattle.wider.specs.Wider.{wider}
use Rattle.wider.proofs.Widening.{wider_facts}
use Rattle.tm.specs.declared.Stamp.{Stamp}
use Rattle.tm.specs.Frame.{time_of, head_of, frame_of, stamped}
use Rattle.tm.proofs.Frame.{time_six, frame_length}
use Rattle.tm.proofs.Frames.{one_frame}
use Rattle.decide.specs.declared.State.{State}
use Rattle.laying.specs.Reports.{failed}
use Rattle.terminal.specs.Outcome.{Input, verdict_on, octets_due, outcome_of}
use Rattle.terminal.specs.Run.{Machine, Step, Answer, input_for}
use Rattle.lineunit.specs.Unit.{line_profile, line_time, line_state, line_store, line_out, line_area}
use Rattle.demands.specs.Terminal.{Terminal, reference, leaves, run_of}
use Rattle.demands.specs.Packets.{Reader, Writer}
use Rattle.demands.specs.Refusing.{unreported, Refuses, ReaderRefuses, WriterRefuses}
use Rattle.demands.specs.Serving.{Reports, RunServes, RoundTrips}
use Rattle.demands.specs.Loading.{Over}
use Rattle.demands.specs.Widening.{parts, rank, Agree, Widens}
use Rattle.demands.specs.Cases.{command, block, first_line, second_line, from, line_input, narrow, wide}
use Rattle.demands.specs.StandIns.{RefusalAt, left_alone, one_refusal, Refuser, Fixed, Keeper, OnlyFirst, Invents, refuses_by, reports_only, Shifted, Silent, Hasty, FirstStays, Picky, OneCount, Uncounted, Leaks, NeverWrites, Touches}
use Rattle.demands.proofs.Computing.{all}
use Rattle.demands.proofs.Demand1.{reader_refuses}
use Rattle.demands.proofs.Determines.{one_verdict, same_verdict, no_other_terminal}

-- The first line from counts 0 and 0: accepted, and due three frames of 56 octets.
abbrev first : Input
first = line_input (from 0 0) first_line

-- ---- refuses everything

subtype_octet : (s : Stamp) (source : List ℕ) → length s.time ≡ 6 → octet (frame_of s source) 14 ≡ s.subtype
unfolding frame_of head_of
subtype_octet s source six =
    ap (λ (t : List ℕ). octet (frame_of (record { pid = s.pid; count = s.count; time = t; kind = s.kind; subtype = s.subtype }) source) 14) (sym (time_six s.time six))

-- What stands at octet 14 is never a 1, the subtype of the report that is due first.
refusal-octet : (i : Input) (out : List ℕ) → octet i.out 14 ≡ 0 → 14 + 1 ≤ length i.out → RefusalAt i out → octet out 14 ≡ 1 → ⊥
refusal-octet i out zero room (left_alone e) h = let z : octet out 14 ≡ 0 = ap (λ (o : List ℕ). octet o 14) e ∙ zero in omega arith
refusal-octet i out zero room (one_refusal s source six kind subtype e) h =
    let z : octet out 14 ≡ 2 =
    ap (λ (o : List ℕ). octet o 14) e
    ∙ laid-inside i.out 0 (frame_of s source) 14 (omega (arith, frame_length s source six)) (omega arith)
    ∙ subtype_octet s source six ∙ subtype in
    omega arith

-- Whatever verdict and counts it gives, it fails by the frames due for an accepted packet.
pub refuser_fails : (f : Terminal) → Refuser f → Reports f → ⊥
unfolding all
refuser_fails f refuses two =
    refusal-octet first (f first).out refl (omega arith) (refuses first) (ap (λ (o : List ℕ). octet o 14) (two.serves first refl).buffer)

-- ---- returns one fixed report

-- Whatever verdict and counts it gives, it fails by the frames due for one accepted packet or for the same from another count.
pub fixed_report_fails : (octets : List ℕ) (f : Terminal) → Fixed octets f → Reports f → ⊥
unfolding all
fixed_report_fails octets f fixed two =
    let later : Input = line_input (from 1 0) first_line in
    let same : (f first).out ≡ (f later).out = fixed first ∙ sym (fixed later) in
    let one : octet (f first).out 3 ≡ 0 = ap (λ (o : List ℕ). octet o 3) (two.serves first refl).buffer in
    let next : octet (f later).out 3 ≡ 1 = ap (λ (o : List ℕ). octet o 3) (two.serves later refl).buffer in
    let z : ◌≡◌ {A = ℕ} 0 1 = sym one ∙ ap (λ (o : List ℕ). octet o 3) same ∙ next in
    omega arith

-- ---- writes no words

-- A load of the word 1234 hex.
abbrev load : Input
load = line_input (from 0 0) (command 6 2 (1 ∷ 1 ∷ (block 0x1000 1 ++ 0x12 ∷ 0x34 ∷ [])))

-- It fails on the store.
pub keeper_fails : (f : Terminal) → Keeper f → Reports f → ⊥
unfolding all
keeper_fails f keeps two =
    let z : ◌≡◌ {A = ℕ} 0x00 0x12 = ap (λ (s : List ℕ). octet s 0) (sym (keeps load) ∙ (two.serves load refl).store) in
    omega arith

-- ---- serves only its first packet

-- The first line, with the line program's time and buffer.
abbrev line : Step
line = record { packet = first_line; time = line_time; out = line_out }

abbrev begin : Machine
begin = record { state = line_state; store = line_store }

second_answered : (given : List Answer) → RunServes line_profile begin (line ∷ line ∷ []) given
    → ((a b : Answer) (more : List Answer) → given ≡ a ∷ b ∷ more → b.out ≡ line_out) → ⊥
unfolding RunServes all
second_answered [] served only = served
second_answered (a ∷ []) served only = served.1
second_answered (a ∷ b ∷ more) served only =
    let z : ◌≡◌ {A = ℕ} 0x00 0x08 = ap (λ (o : List ℕ). octet o 0) (sym (only a b more refl) ∙ (served.1.0 refl).buffer) in
    omega arith

-- It fails at a second packet.
pub only_first_fails : (run : Profile → Machine → List Step → List Answer) → OnlyFirst run
    → ((p : Profile) (m : Machine) (steps : List Step) → RunServes p m steps (run p m steps)) → ⊥
only_first_fails run only served =
    second_answered (run line_profile begin (line ∷ line ∷ [])) (served line_profile begin (line ∷ line ∷ [])) (only line_profile begin line line [])

-- ---- invents its octet count

-- Wherever the count is not that of the frames due, it fails.
pub invented_count_fails : (f : Terminal) → Invents f → Refuses f → Reports f → ⊥
unfolding outcome_of
invented_count_fails f invents one two = invents.1 (ap (λ (a : Answer). a.outcome.written) (no_other_terminal f one two invents.0))

-- ---- demand 3's agreement

-- A terminal that answers alike under both profiles, and keeps the store's length, agrees.
blind_agrees : (f : Terminal) → ((wide narrow : Profile) (m : Machine) (s : Step) → wider wide narrow (length m.store) ≡ true → f (input_for wide m s) ≡ f (input_for narrow m s))
    → ((i : Input) → length (f i).store ≡ length i.store) → Widens f
unfolding Agree answers
blind_agrees f alike long wide narrow m [] h = refl
blind_agrees f alike long wide narrow m (s ∷ rest) h =
    let e : f (input_for wide m s) ≡ f (input_for narrow m s) = alike wide narrow m s h in
    let left : Machine = leaves f narrow m s in
    let l : leaves f wide m s ≡ left = ap (λ (a : Answer). record { state = a.outcome.state; store = a.store }) e in
    let next : Agree (run_of f narrow left rest) (run_of f wide left rest) = blind_agrees f alike long wide narrow left rest (rw (long (input_for narrow m s)) h) in (
      (λ _. (e, subst (λ (n : Machine). Agree (run_of f narrow left rest) (run_of f wide n rest)) (sym l) next)),
      (λ _. omega (arith, ap (λ (a : Answer). rank a.outcome.verdict) e)),
    )

-- A terminal that refuses everything has it, and is one of the refusers above.
pub refuser_agrees : (by : List ℕ → Refusal) → Widens (refuses_by by)
refuser_agrees by = blind_agrees (refuses_by by) (λ wide narrow m s h. rw (wider_facts wide narrow (length m.store) h).pid) (λ i. refl)

pub refuses_by_refuses : (by : List ℕ → Refusal) → Refuser (refuses_by by)
unfolding stamped
refuses_by_refuses by i =
    one_refusal _ _ refl refl refl (ap (λ (o : List ℕ). laid i.out 0 o) (one_frame i.profile.pid (time_of i.time) i.state.counts (failed (Err (by i.packet)) i.packet)))

-- So has a terminal that returns one fixed report.
pub fixed_report_agrees : (v : Verdict) (octets : List ℕ) → Widens (reports_only v octets)
fixed_report_agrees v octets = blind_agrees (reports_only v octets) (λ wide narrow m s h. refl) (λ i. refl)

pub reports_only_fixed : (v : Verdict) (octets : List ℕ) → Fixed octets (reports_only v octets)
reports_only_fixed v octets i = refl

-- ---- other terminals

-- Frames one octet further on.
pub shifted_fails : (f : Terminal) → Shifted f → Reports f → ⊥
unfolding all
shifted_fails f shifted two =
    let z : ◌≡◌ {A = ℕ} 0x00 0x08 =
    sym (laid_elsewhere line_out 1 (octets_due first) 0 (inl (omega arith))) ∙ ap (λ (o : List ℕ). octet o 0) (sym (shifted first) ∙ (two.serves first refl).buffer) in
    omega arith

-- No report of a refusal.
pub silent_fails : (f : Terminal) → Silent f → Refuses f → ⊥
unfolding all
silent_fails f silent one =
    let i : Input = line_input (from 0 0) second_line in
    let v : (f i).outcome.verdict ≡ verdict_on i = same_verdict f one i in
    let z : ◌≡◌ {A = ℕ} 0x00 0x08 =
    ap (λ (o : List ℕ). octet o 0) (sym (silent i (ap is_accepted v)) ∙ (one.reported i (ap is_accepted v) (ap unreported v)).buffer) in
    omega arith

-- A load whose second block is outside, written all the same.
pub hasty_fails : (f : Terminal) → Hasty f → Refuses f → ⊥
unfolding all
hasty_fails f hasty one =
    let i : Input = line_input (from 0 0) (command 6 2 (1 ∷ 2 ∷ (block 0x1000 1 ++ 0x12 ∷ 0x34 ∷ block 0x1050 1 ++ 0x56 ∷ 0x78 ∷ []))) in
    let v : (f i).outcome.verdict ≡ verdict_on i = same_verdict f one i in
    let z : ◌≡◌ {A = ℕ} 0x00 0x12 =
    ap (λ (s : List ℕ). octet s 0) (sym (one.reported i (ap is_accepted v) (ap unreported v)).store ∙ hasty i) in
    omega arith

-- The words of the earlier of two blocks at one address.
pub first_stays_fails : (f : Terminal) → FirstStays f → Reports f → ⊥
unfolding all
first_stays_fails f stays two =
    let i : Input = line_input (from 0 0) (command 6 2 (1 ∷ 2 ∷ (block 0x1000 1 ++ 0x12 ∷ 0x34 ∷ block 0x1000 1 ++ 0x56 ∷ 0x78 ∷ []))) in
    let over : Over line_area 0 (record { at = 2; start = 0x1000; words = 1; next = 10 }) = (omega arith, omega arith) in
    let later : octet (f i).store 0 ≡ 0x56 = (two.loads i line_area refl refl refl).last 0 (record { at = 2; start = 0x1000; words = 1; next = 10 } ∷ []) [] (record { at = 10; start = 0x1000; words = 1; next = 18 }) refl over tt in
    let z : ◌≡◌ {A = ℕ} 0x12 0x56 = sym (stays i line_area 0 _ _ refl refl over) ∙ later in
    omega arith

-- A profile of two areas refused, whatever it is.
pub picky_fails : (f : Terminal) → Picky f → Widens f → ⊥
unfolding Agree all
picky_fails f picky three =
    let s : Step = record { packet = command 6 2 (1 ∷ 1 ∷ (block 0x1000 1 ++ 0x12 ∷ 0x34 ∷ [])); time = line_time; out = line_out } in
    let m : Machine = record { state = line_state; store = replicate 512 0 } in
    let n : f (input_for narrow m s) ≡ reference (input_for narrow m s) = picky.few (input_for narrow m s) refl in
    let both = (three wide narrow m (s ∷ []) refl).0 (ap (λ (a : Answer). parts a.outcome.verdict) n) in
    false≢true (ap is_accepted (sym (picky.many (input_for wide m s) refl)) ∙ ap (λ (a : Answer). is_accepted a.outcome.verdict) (both.0 ∙ n))

-- One count for both categories.
pub one_count_fails : (f : Terminal) → OneCount f → Reports f → ⊥
unfolding all
one_count_fails f same two =
    let e : (f first).outcome.state ≡ from 2 1 = (two.serves first refl).state in
    let z : ◌≡◌ {A = ℕ} 2 1 = ap (λ (s : State). s.counts.reports) (sym e) ∙ same first ∙ ap (λ (s : State). s.counts.services) e in
    omega arith

-- Counts that never advance.
pub uncounted_fails : (f : Terminal) → Uncounted f → Reports f → ⊥
unfolding all
uncounted_fails f stays two =
    let z : ◌≡◌ {A = ℕ} 0 2 = ap (λ (s : State). s.counts.reports) (sym (stays first) ∙ (two.serves first refl).state) in
    omega arith

-- ---- readers and writers

-- Data of a packet whose error control is wrong.
pub leaking_reader_fails : (read : Reader) → Leaks read → ReaderRefuses read → ⊥
unfolding all judged reading_of
leaking_reader_fails read leaks refuses =
    let p : List ℕ = 0x18 ∷ 0x5C ∷ 0xC0 ∷ 0x00 ∷ 0x00 ∷ 0x06 ∷ 0x19 ∷ 0x11 ∷ 0x01 ∷ 0x00 ∷ 0xAA ∷ 0x00 ∷ 0x00 ∷ [] in
    let v : (read p).verdict ≡ judged p = one_verdict (reader_rows p) _ _ (refuses.decides p) (reader_refuses.decides p) in
    let z : ◌≡◌ {A = ℕ} 1 0 = ap length (ap (λ (s : Span). placed s p) (sym (leaks p)) ∙ refuses.no_data p (ap is_accepted v)) in
    omega arith

-- Every order refused.
pub never_writing_fails : (w : Writer) (read : Reader) → NeverWrites w → RoundTrips w read → ⊥
unfolding all
never_writing_fails w read never trips =
    let o : Order = record { pid = 5; count = 0; ack = 0; method = Crc; kind = 17; subtype = 1 } in
    let x = trips.reads_back o [] (replicate 12 0) (record { fields = refl; short = omega arith; room = omega arith }) in
    false≢true (sym (never o [] (replicate 12 0)) ∙ ap is_packet x.answer)

refused_not_packet : (a : Written) → written_number a ≡ 50 → is_packet a ≡ false
refused_not_packet (Ok n) h = absurd (omega arith)
refused_not_packet (Err BadField) h = refl
refused_not_packet (Err BadData) h = refl
refused_not_packet (Err NoRoom) h = refl

-- A buffer that is touched by a write with a PID of 200.
pub touching_writer_fails : (w : Writer) → Touches w → WriterRefuses w → ⊥
touching_writer_fails w touches refuses =
    let o : Order = record { pid = 200; count = 0; ack = 0; method = Crc; kind = 17; subtype = 1 } in
    let kept = refuses.keeps o [] (0 ∷ []) (refused_not_packet (w o [] (0 ∷ [])).answer (refuses.field_50 o [] (0 ∷ []) refl)) in
    let z : ◌≡◌ {A = ℕ} 0 24 = ap (λ (b : List ℕ). octet b 0) (sym kept ∙ touches o [] []) in
    omega arith
