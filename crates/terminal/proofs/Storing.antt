-- What a packet leaves of the store: its length, and every octet that lies in no area of the profile.
-- Assumes nothing.
use Rattle.std.specs.Prelude.{Some, None, Option}
use mathlib.Core.Path.{◌≡◌, refl, sym, ap, ◌∙◌}
use mathlib.Core.Bool.{true}
use mathlib.Core.List.{List, Memᴰ}
use Prim.Native.Nat.{ℕ, ◌*◌}
use native.Mathlib.Omega.{arith}
use lib.ListN.{length, get_or}
use Rattle.laws.proofs.Each.{each_so, each_both}
use Rattle.laws.proofs.First.{none_each}
use Rattle.laws.proofs.Tests.{by-test}
use Rattle.checks.specs.Table.{AllHold}
use Rattle.checks.specs.Verdict.{is_accepted}
use Rattle.tc.specs.Layout.{fields_of, application_of}
use Rattle.map.specs.declared.Area.{Area}
use Rattle.map.specs.declared.Profile.{Profile}
use Rattle.map.specs.Place.{word_octets, used, inside, octets_of, Off}
use Rattle.map.proofs.Finding.{found_member}
use Rattle.map.proofs.Octets.{octets_words, off_block}
use Rattle.blocks.specs.declared.Block.{Block}
use Rattle.blocks.specs.Blocks.{memory_id, blocks_of, words_of}
use Rattle.blocks.proofs.WellFormed.{right_words}
use Rattle.requests.specs.declared.Action.{Action}
use Rattle.requests.specs.declared.Action.TheVariants.{Load, Dump, Check}
use Rattle.requests.specs.declared.Request.TheVariants.{Memory as Asks, Connection as Connects}
use Rattle.requests.specs.declared.Request.{Request}
use Rattle.serving.specs.declared.Task.{Task}
use Rattle.serving.specs.declared.Task.TheVariants.{Idle, Memory, Connection}
use Rattle.requests.specs.Request.{carried_by, most_words, outside_of}
use Rattle.addressing.specs.Requested.{service_rows, asked_by, task_for}
use Rattle.decide.specs.Table.{task_of}
use Rattle.serving.specs.Services.{Formed}
use Rattle.decide.proofs.Decided.{accepted_facts, memory_facts}
use Rattle.memory.proofs.Loaded.{Beyond, loaded-length, loaded_elsewhere}
use Rattle.terminal.specs.Done.{memory_done, done}
use Rattle.terminal.specs.Outcome.{Input, verdict_on, store_on}
use Rattle.terminal.proofs.Answering.{accepted_store, refused_store}

-- ---- its length

memory_length : (a : Area) (action : Action) (d store : List ℕ) → length (memory_done a action d store).store ≡ length store
memory_length a Load d store = loaded-length a d (blocks_of (carried_by Load) d) store
memory_length a Dump d store = refl
memory_length a Check d store = refl

done-length : (t : Task) (d store : List ℕ) → length (done t d store).store ≡ length store
done-length Idle d store = refl
done-length (Memory job) d store = memory_length job.area job.action d store
done-length Connection d store = refl

-- A packet keeps the store's length.
pub store_length : (i : Input) → length (store_on i) ≡ length i.store
store_length i =
    by-test (is_accepted (verdict_on i))
    (λ h. ap length (sym (accepted_store i h)) ∙ done-length (task_of i.profile i.packet) (application_of i.packet) i.store)
    (λ h. ap length (sym (refused_store i h)))

-- ---- what lies in no area

module _ (a : Area) (d : List ℕ) (k : ℕ) (off : Off a k) where
  -- The words of a block that is inside the area are written inside it.
  block_beyond : (b : Block) → (length (words_of d b) ≡ b.words * word_octets) × (inside a b.start b.words ≡ true) → Beyond a d k b
  block_beyond b h =
      let octets : octets_of a b.words ≡ length (words_of d b) = octets_words a b.words ∙ sym h.0 in
      rw octets at (off_block a k b.start b.words off h.1)

  -- A well formed request whose blocks are all inside the area changes no octet outside it.
  memory_kept : (action : Action) (store : List ℕ) → Formed action d → outside_of a (blocks_of (carried_by action) d) ≡ 0
      → get_or (memory_done a action d store).store k 0 ≡ get_or store k 0
  unfolding outside_of
  memory_kept Load store formed none =
      let blocks : List Block = blocks_of (carried_by Load) d in
      loaded_elsewhere a d k blocks store
      (each_so blocks block_beyond
      (each_both _ _ blocks (right_words (carried_by Load) (most_words Load) d formed.1)
      (none_each (λ (b : Block). inside a b.start b.words) blocks 1 (omega arith) none)))
  memory_kept Dump store formed none = refl
  memory_kept Check store formed none = refl

-- An octet of the store lies in no area of a profile.
abbrev OffAll : Profile → ℕ → Type 0
OffAll p k = (a : Area) → Memᴰ a (used p) → Off a k

service_kept : (p : Profile) (asked : Option Request) (d store : List ℕ) (k : ℕ) → AllHold (service_rows p asked d) → OffAll p k
    → get_or (done (task_for p asked d) d store).store k 0 ≡ get_or store k 0
service_kept p (Some (Asks action)) d store k all off =
    let m = memory_facts p action d all in
    rw m.named (memory_kept m.area d k (off m.area (found_member (memory_id d) (used p) m.area m.named)) action store m.formed m.inside)
service_kept p (Some Connects) d store k all off = refl
service_kept p None d store k all off = refl

-- It never changes.
pub outside_areas_kept : (i : Input) (k : ℕ) → OffAll i.profile k → get_or (store_on i) k 0 ≡ get_or i.store k 0
outside_areas_kept i k off =
    by-test (is_accepted (verdict_on i))
    (λ h.
    ap (λ (s : List ℕ). get_or s k 0) (sym (accepted_store i h))
    ∙ service_kept i.profile (asked_by (fields_of i.packet)) (application_of i.packet) i.store k
    (accepted_facts i.profile i.state (length i.store) (length i.out) i.packet h).service off)
    (λ h. ap (λ (s : List ℕ). get_or s k 0) (sym (refused_store i h)))
