-- What a verdict tells: of a packet that is answered with a frame, and of one that is accepted.
-- Assumes nothing.
use Rattle.std.specs.Prelude.{Some, None, Ok, Option}
use mathlib.Core.Path.{◌≡◌, refl, sym, ap, subst, ◌∙◌}
use mathlib.Core.Bool.{true, false, false≢true}
use mathlib.Core.List.{List}
use Prim.Native.Nat.{ℕ, ◌≤◌}
use lib.ListN.{length}
use lib.Dec.{leb}
use borrow.Author.Tests.{leb-true, leb-false, eqb-true}
use Rattle.laws.proofs.Tests.{by-test, halves}
use Rattle.fields.specs.Fields.{apid_of}
use Rattle.checks.specs.Verdict.{is_accepted, silent}
use Rattle.checks.specs.Table.{AllHold}
use Rattle.checks.proofs.Table.{all_append}
use Rattle.checks.proofs.Verdicts.{accepted_holds, all_accept}
use Rattle.tc.specs.Layout.{category, fields_of, application_of}
use Rattle.reader.specs.Reader.{least_octets, reader_rows, judged, reading_of}
use Rattle.reader.proofs.Judged.{judged-short}
use Rattle.map.specs.declared.Area.{Area}
use Rattle.map.specs.declared.Profile.{Profile}
use Rattle.map.specs.Sound.{sound, store_allowed}
use Rattle.blocks.specs.Blocks.{blocks_of}
use Rattle.counts.specs.Counts.{in_range}
use Rattle.decide.specs.declared.State.{State}
use Rattle.requests.specs.declared.Action.{Action}
use Rattle.requests.specs.declared.Request.TheVariants.{Memory, Connection}
use Rattle.requests.specs.declared.Request.{Request}
use Rattle.serving.specs.Decision.{Decision, verdict_of}
use Rattle.requests.proofs.Found.{found_is}
use Rattle.requests.specs.Request.{serves, offers, right_for, carried_by, area_named, outside_of}
use Rattle.decide.specs.Table.{out_least, caller_right, caller_rows, rows, decided, decision_of}
use Rattle.serving.specs.Services.{has_right, all_inside, area_rows, memory_rows, memory_task, Formed, FormedFor}
use Rattle.addressing.specs.Requested.{service_rows, task_for, asked_by, request_rows}
use Rattle.decide.proofs.Checked.{decision_decided, at_buffer, at_caller, at_packet, at_reader}

-- ---- check 41, part by part

-- What the caller hands in besides the output buffer is right.
pub record CallerFacts (p : Profile) (state : State) (octets : ℕ) : Type 0 where
  pub sound : sound p octets ≡ true
  pub store : store_allowed octets ≡ true
  pub counts : in_range state.counts ≡ true

pub caller_facts : (p : Profile) (state : State) (octets : ℕ) → caller_right p state octets ≡ true → CallerFacts p state octets
unfolding caller_right
caller_facts p state octets right = record { sound = search halves; store = search halves; counts = search halves }

-- ---- a packet that is answered with a frame

-- What every verdict but 40, 41 and 42 tells.
pub record HeardFacts (p : Profile) (state : State) (octets room : ℕ) (packet : List ℕ) : Type 0 where
  pub out : out_least ≤ room
  pub six : least_octets ≤ length packet
  pub caller : CallerFacts p state octets

module _ (p : Profile) (state : State) (octets room : ℕ) (packet : List ℕ) where
  -- A decision that is silent is not one that is heard.
  contradicts : {X : Type 0} (d : Decision) → silent (verdict_of d) ≡ true → d ≡ decision_of p state octets room packet → silent (decided p state octets room packet) ≡ false → X
  contradicts d quiet is heard =
      absurd (false≢true (sym heard ∙ ap silent (sym (decision_decided p state octets room packet) ∙ ap verdict_of (sym is)) ∙ quiet))

  pub heard_facts : silent (decided p state octets room packet) ≡ false → HeardFacts p state octets room packet
  unfolding reading_of
  heard_facts heard =
      by-test (leb out_least room)
      (λ long.
      by-test (caller_right p state octets)
      (λ right.
      by-test (leb least_octets (length packet))
      (λ six. record { out = leb-true _ _ long; six = leb-true _ _ six; caller = caller_facts p state octets right })
      (λ few.
      let short = judged-short packet (leb-false _ _ few) in
      contradicts _ refl (sym (at_packet p state octets room packet (leb-true _ _ long) right ∙ at_reader p packet (reading_of packet) _ refl short)) heard))
      (λ wrong. contradicts _ refl (sym (at_caller p state octets room packet (leb-true _ _ long) wrong)) heard))
      (λ less. contradicts _ refl (sym (at_buffer p state octets room packet (leb-false _ _ less))) heard)

-- ---- a packet that is accepted

-- Every check of the table, passed.
pub record AcceptedFacts (p : Profile) (state : State) (octets room : ℕ) (packet : List ℕ) : Type 0 where
  pub out : out_least ≤ room
  pub caller : CallerFacts p state octets
  pub judged : judged packet ≡ Ok tt
  pub apid : (fields_of packet).apid ≡ apid_of p.pid category
  pub served : serves p.flags (fields_of packet).kind ≡ true
  pub offered : offers p.flags (asked_by (fields_of packet)) ≡ true
  pub service : AllHold (service_rows p (asked_by (fields_of packet)) (application_of packet))

pub accepted_facts : (p : Profile) (state : State) (octets room : ℕ) (packet : List ℕ)
    → is_accepted (decided p state octets room packet) ≡ true → AcceptedFacts p state octets room packet
unfolding AllHold decided rows caller_rows request_rows judged
accepted_facts p state octets room packet accepted =
    let all = accepted_holds (rows p state octets room packet) accepted in
    let rest = all_append (reader_rows packet) (request_rows p (fields_of packet) (application_of packet)) all.1.1 in
    record {
      out = leb-true out_least room all.0;
      caller = caller_facts p state octets all.1.0;
      judged = all_accept (reader_rows packet) rest.0;
      apid = eqb-true _ _ rest.1.0;
      served = rest.1.1.0;
      offered = rest.1.1.1.0;
      service = rest.1.1.1.1;
    }

-- ---- an accepted packet of service 6

-- Its data is well formed, the area that it names has the right, and every block is inside it.
pub record MemoryFacts (p : Profile) (action : Action) (d : List ℕ) : Type 0 where
  pub formed : Formed action d
  pub area : Area
  pub named : area_named p d ≡ Some area
  pub right : right_for area.rights action ≡ true
  pub inside : outside_of area (blocks_of (carried_by action) d) ≡ 0

pub memory_facts : (p : Profile) (action : Action) (d : List ℕ) → AllHold (memory_rows p action d) → MemoryFacts p action d
unfolding AllHold memory_rows area_rows
memory_facts p action d all =
    let found = found_is (area_named p d) all.1.1.0 in
    record {
      formed = (all.0, all.1.0);
      area = found.0;
      named = found.1;
      right = subst (λ (f : Option Area). has_right f action ≡ true) found.1 all.1.1.1.0;
      inside = eqb-true _ _ (subst (λ (f : Option Area). all_inside f action d ≡ true) found.1 all.1.1.1.1.0);
    }

-- ---- the data of an accepted packet is well formed for its task

formed_memory : (f : Option Area) (action : Action) (d : List ℕ) → Formed action d → FormedFor (memory_task f action) d
formed_memory (Some a) action d h = h
formed_memory None action d h = tt

pub formed_for : (p : Profile) (asked : Option Request) (d : List ℕ) → AllHold (service_rows p asked d) → FormedFor (task_for p asked d) d
formed_for p (Some (Memory action)) d all = formed_memory (area_named p d) action d (memory_facts p action d all).formed
formed_for p (Some Connection) d all = tt
formed_for p None d all = tt
