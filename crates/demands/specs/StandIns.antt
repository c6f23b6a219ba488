-- Document 01, "Five stand-ins have to be rejected", and other wrong terminals, readers and writers: families, each said by what all of its members do.
use Rattle.std.specs.Prelude.{◌≡◌, true, false, List, [], ◌∷◌, ℕ, ◌-◌, length, leb, Some, Err}
use Rattle.octets.specs.Numbers.{octet}
use Rattle.octets.specs.Copy.{laid}
use Rattle.checks.specs.declared.Check.TheVariants.{Caller}
use Rattle.checks.specs.declared.Refusal.{Refusal}
use Rattle.checks.specs.Verdict.{Verdict}
use Rattle.checks.specs.Verdict.{is_accepted, refusal}
use Rattle.map.specs.declared.Area.{Area}
use Rattle.map.specs.declared.Profile.{Profile}
use Rattle.map.specs.Place.{octet_at}
use Rattle.blocks.specs.declared.Block.{Block}
use Rattle.blocks.specs.Blocks.{blocks_of, words_of}
use Rattle.requests.specs.declared.Action.TheVariants.{Load}
use Rattle.requests.specs.Request.{carried_by, area_named}
use Rattle.tc.specs.Layout.{application_of, data_span}
use Rattle.writer.specs.declared.Order.{Order}
use Rattle.writer.specs.Writer.{is_packet}
use Rattle.tm.specs.declared.Stamp.{Stamp}
use Rattle.tm.specs.Frame.{Report, frame_of, frames_of, time_of}
use Rattle.laws.specs.Fold.{joined}
use Rattle.laying.specs.Reports.{failed}
use Rattle.terminal.specs.Outcome.{Input, done_by, state_after, octets_due}
use Rattle.terminal.specs.Run.{Machine, Step, Answer}
use Rattle.demands.specs.Terminal.{Terminal, reference}
use Rattle.demands.specs.Packets.{Reader, Writer}
use Rattle.demands.specs.Loading.{Over}

-- ---- the five

-- Refuses everything: the buffer stays, or one (1,2) stands at its front, whatever verdict and counts go with it.
pub data RefusalAt (i : Input) (out : List ℕ) : Type 0 where
  left_alone : out ≡ i.out → RefusalAt i out
  one_refusal : (s : Stamp) (source : List ℕ) → length s.time ≡ 6 → s.kind ≡ 1 → s.subtype ≡ 2 → out ≡ laid i.out 0 (frame_of s source) → RefusalAt i out

abbrev pub Refuser : Terminal → Type 0
Refuser f = (i : Input) → RefusalAt i (f i).out

-- Returns one fixed report, whatever verdict and counts go with it.
abbrev pub Fixed : List ℕ → Terminal → Type 0
Fixed octets f = (i : Input) → (f i).out ≡ laid i.out 0 octets

-- Reports acceptance and writes no words.
abbrev pub Keeper : Terminal → Type 0
Keeper f = (i : Input) → (f i).store ≡ i.store

-- Serves only its first packet: whatever it uses to tell the first, the second finds its buffer as it was.
abbrev pub OnlyFirst : (Profile → Machine → List Step → List Answer) → Type 0
OnlyFirst run = (p : Profile) (m : Machine) (s t : Step) (steps : List Step) (a b : Answer) (more : List Answer) → run p m (s ∷ t ∷ steps) ≡ a ∷ b ∷ more → b.out ≡ t.out

-- Invents its octet count: somewhere it is not that of the frames due.
abbrev pub Invents : Terminal → Type 0
Invents f = (i : Input) × ((f i).outcome.written ≡ length (octets_due i) → ⊥)

-- Two of them, for every refusal and every report that they could be made of, with a state and a store of their own: these have demand 3's agreement.
abbrev pub refuses_by : (List ℕ → Refusal) → Terminal
refuses_by by i =
    let v : Verdict = Err (by i.packet) in
    let reports : List Report = failed v i.packet ∷ [] in
    let octets : List ℕ = joined (frames_of i.profile.pid (time_of i.time) i.state.counts reports) in
    record {
      outcome = record { verdict = v; written = length octets; state = state_after i.state reports };
      out = laid i.out 0 octets;
      store = i.store;
    }

abbrev pub reports_only : Verdict → List ℕ → Terminal
reports_only v octets i = record {
  outcome = record { verdict = v; written = length octets; state = i.state };
  out = laid i.out 0 octets;
  store = i.store;
}

-- ---- others

-- Lays its frames one octet further on.
abbrev pub Shifted : Terminal → Type 0
Shifted f = (i : Input) → (f i).out ≡ laid i.out 1 (octets_due i)

-- Gives no report of a refusal.
abbrev pub Silent : Terminal → Type 0
Silent f = (i : Input) → is_accepted (f i).outcome.verdict ≡ false → (f i).out ≡ i.out

-- Writes a load's words whatever the verdict is.
abbrev pub Hasty : Terminal → Type 0
Hasty f = (i : Input) → (f i).store ≡ (done_by i.profile i.packet i.store).store

-- Leaves the words of the first block, also where a later block overlaps it.
abbrev pub FirstStays : Terminal → Type 0
FirstStays f = (i : Input) (x : Area) (k : ℕ) (b : Block) (rest : List Block) → area_named i.profile (application_of i.packet) ≡ Some x
    → blocks_of (carried_by Load) (application_of i.packet) ≡ b ∷ rest → Over x k b
    → octet (f i).store k ≡ octet (words_of (application_of i.packet) b) (k - octet_at x b.start)

-- Refuses every profile of two areas or more, and is right about the others.
pub record Picky (f : Terminal) : Type 0 where
  pub many : (i : Input) → leb 2 i.profile.count ≡ true → (f i).outcome.verdict ≡ Err (refusal Caller 0)
  pub few : (i : Input) → leb 2 i.profile.count ≡ false → f i ≡ reference i

-- Has one count for both categories.
abbrev pub OneCount : Terminal → Type 0
OneCount f = (i : Input) → (f i).outcome.state.counts.reports ≡ (f i).outcome.state.counts.services

-- Never advances a count.
abbrev pub Uncounted : Terminal → Type 0
Uncounted f = (i : Input) → (f i).outcome.state ≡ i.state

-- Hands back data of a refused packet.
abbrev pub Leaks : Reader → Type 0
Leaks read = (p : List ℕ) → (read p).«data» ≡ data_span p

-- Refuses every order.
abbrev pub NeverWrites : Writer → Type 0
NeverWrites w = (o : Order) (data' buffer : List ℕ) → is_packet (w o data' buffer).answer ≡ false

-- Writes before it refuses.
abbrev pub Touches : Writer → Type 0
Touches w = (o : Order) (data' rest : List ℕ) → (w o data' (0 ∷ rest)).buffer ≡ 24 ∷ rest
