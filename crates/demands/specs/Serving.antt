-- The inspector's second demand, of any terminal, reader and writer: "Reports, counters and memory after each packet are exactly those of the rules in document 01 [..]. A packet written from valid fields reads back as those fields. A packet that reads cleanly, with the ordinary category, checksum flag and pad, is written back as the same octets." Since document 02, wish 3, the checksum flag is any: "reading and writing back no longer need flag 1". (After a refused packet: Refusing.)
use Rattle.std.specs.Prelude.{◌≡◌, true, ℕ, ◌+◌, ◌≤◌, length, take, drop, Some, Ok}
use mathlib.Core.List.{List, [], ◌∷◌, ◌++◌, Memᴰ}
use Rattle.laws.specs.Each.{Each}
use Rattle.laws.specs.Fold.{joined}
use Rattle.octets.specs.Numbers.{Octets, octet}
use Rattle.checks.specs.Verdict.{is_accepted}
use Rattle.tc.specs.Layout.{around, fields_of, application_of}
use Rattle.writer.specs.declared.Order.{Order}
use Rattle.writer.specs.Writer.{fields_for}
use Rattle.map.specs.declared.Area.{Area}
use Rattle.map.specs.declared.Profile.{Profile}
use Rattle.map.specs.Place.{used, Off}
use Rattle.blocks.specs.declared.Block.{Block}
use Rattle.blocks.specs.Blocks.{blocks_of}
use Rattle.counts.specs.Counts.{in_range}
use Rattle.tm.specs.Frame.{Report, frames_of, frame_size, time_of}
use Rattle.requests.specs.declared.Action.TheVariants.{Load}
use Rattle.requests.specs.declared.Request.TheVariants.{Memory}
use Rattle.requests.specs.Request.{carried_by, area_named}
use Rattle.laying.specs.Reports.{echo, asked, asks_acceptance, asks_completion}
use Rattle.terminal.specs.Outcome.{Input, done_by, state_after, verdict_on}
use Rattle.terminal.specs.Run.{Machine, Step, Answer, input_for, after}
use Rattle.demands.specs.Terminal.{Terminal, asked_on}
use Rattle.demands.specs.Packets.{Reader, handed, Write, Writer, order_of, Ordinary}
use Rattle.demands.specs.Refusing.{Writable}
use Rattle.demands.specs.Loading.{Loads, GivesBack}

-- ---- after an accepted packet

-- The reports due for an accepted packet, in order: (1,1) if asked, the service's, (1,7) if asked.
abbrev pub due : Input → List Report
due i =
    asked (asks_acceptance (fields_of i.packet).ack) (echo 1 i.packet)
    ++ ((done_by i.profile i.packet i.store).reports ++ asked (asks_completion (fields_of i.packet).ack) (echo 7 i.packet))

-- Their frames.
abbrev pub frames : Input → List (List ℕ)
frames i = frames_of i.profile.pid (time_of i.time) i.state.counts (due i)

-- The summed lengths of some frames.
unfoldable pub total : List (List ℕ) → ℕ
total [] = 0
total (frame ∷ rest) = length frame + total rest

-- What an accepted packet is answered: those frames at the front of the buffer, whose other octets stay; their summed lengths; the counts after them; and the store as the request leaves it.
pub record Serves (i : Input) (a : Answer) : Type 0 where
  pub written : a.outcome.written ≡ total (frames i)
  pub buffer : a.out ≡ joined (frames i) ++ drop (total (frames i)) i.out
  pub state : a.outcome.state ≡ state_after i.state (due i)
  pub store : a.store ≡ (done_by i.profile i.packet i.store).store
  pub layout : Each (λ frame. length frame ≡ frame_size frame) (frames i)

-- ---- after any packet

-- At most 4,072 octets are written; counts of 14 bits stay so; the store keeps its length, and every octet that lies in no area of the profile.
pub record Bounded (i : Input) (a : Answer) : Type 0 where
  pub most : a.outcome.written ≤ 4072
  pub counts : in_range i.state.counts ≡ true → in_range a.outcome.state.counts ≡ true
  pub long : length a.store ≡ length i.store
  pub elsewhere : (k : ℕ) → ((x : Area) → Memᴰ x (used i.profile) → Off x k) → octet a.store k ≡ octet i.store k

-- The demand of a terminal. Which packets are accepted, the table says and not the terminal.
pub record Reports (f : Terminal) : Type 0 where
  pub serves : (i : Input) → is_accepted (verdict_on i) ≡ true → Serves i (f i)
  pub loads : (i : Input) (x : Area) → is_accepted (verdict_on i) ≡ true → asked_on i ≡ Some (Memory Load)
      → area_named i.profile (application_of i.packet) ≡ Some x → Loads x (application_of i.packet) i.store (f i).store
  pub gives_back : (i : Input) (x : Area) (before : List Block) (b c : Block) → is_accepted (verdict_on i) ≡ true → asked_on i ≡ Some (Memory Load)
      → area_named i.profile (application_of i.packet) ≡ Some x → blocks_of (carried_by Load) (application_of i.packet) ≡ before ++ b ∷ []
      → c.start ≡ b.start → c.words ≡ b.words → GivesBack x (application_of i.packet) (f i).store b c
  pub bounded : (i : Input) → Bounded i (f i)

-- The same of the answers to some packets in turn, however they came about: each accepted packet is answered from the state and the store that document 01's rules reach by the packets before it.
unfoldable pub RunServes : Profile → Machine → List Step → List Answer → Type 0
RunServes p m [] given = given ≡ []
RunServes p m (s ∷ steps) [] = ⊥
RunServes p m (s ∷ steps) (a ∷ given) =
    (is_accepted (verdict_on (input_for p m s)) ≡ true → Serves (input_for p m s) a) × RunServes p (after p m s) steps given

-- ---- reader and writer

-- The demand of a writer and a reader on an order that can be written: the packet's octets alone are touched, and they read back as the order's fields and the data.
pub record ReadsBack (read : Reader) (o : Order) (data' buffer : List ℕ) (x : Write) : Type 0 where
  pub answer : x.answer ≡ Ok (length data' + around)
  pub verdict : (read (take (length data' + around) x.buffer)).verdict ≡ Ok tt
  pub fields : (read (take (length data' + around) x.buffer)).fields ≡ fields_for o
  pub same : handed read (take (length data' + around) x.buffer) ≡ data'
  pub beyond : drop (length data' + around) x.buffer ≡ drop (length data' + around) buffer

-- The demand of a writer on the order and the data of a packet that was read: the same octets, and nothing beyond them changes.
pub record WritesBack (p buffer : List ℕ) (x : Write) : Type 0 where
  pub answer : x.answer ≡ Ok (length p)
  pub octets : x.buffer ≡ p ++ drop (length p) buffer

-- Both ways.
pub record RoundTrips (w : Writer) (read : Reader) : Type 0 where
  pub reads_back : (o : Order) (data' buffer : List ℕ) → Writable o data' buffer → ReadsBack read o data' buffer (w o data' buffer)
  pub writes_back : (p buffer : List ℕ) → Octets p → (read p).verdict ≡ Ok tt → Ordinary (read p).fields → length p ≤ length buffer
      → WritesBack p buffer (w (order_of (read p).fields) (handed read p) buffer)
