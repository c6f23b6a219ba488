-- The second demand is met by the terminal, the reader and the writer of document 01.
-- Assumes nothing.
use Rattle.std.specs.Prelude.{Some, Option}
use mathlib.Core.Path.{◌≡◌, refl, sym, ap, ap₂, subst, ◌∙◌}
use mathlib.Core.Bool.{true}
use mathlib.Core.Logic.{inl, inr}
use mathlib.Core.List.{List, [], ◌∷◌, ◌++◌}
use Prim.Native.Nat.{ℕ, ◌+◌, ◌*◌, ◌≤◌}
use native.Mathlib.Omega.{arith}
use lib.ListN.{length, drop, length-append}
use Rattle.laws.specs.Each.{Each}
use Rattle.laws.specs.Fold.{joined}
use Rattle.laws.proofs.Each.{each_behind}
use Rattle.laws.proofs.First.{none_each}
use Rattle.laws.proofs.Order.{by_order}
use Rattle.checks.specs.Verdict.{is_accepted}
use Rattle.checks.specs.Table.{AllHold}
use Rattle.tc.specs.Layout.{application_of}
use Rattle.map.specs.declared.Area.{Area}
use Rattle.map.specs.Place.{word_octets, inside, octet_at, octets_of, stored_at}
use Rattle.map.specs.Sound.{area_sound}
use Rattle.map.proofs.Finding.{found_sound}
use Rattle.map.proofs.Octets.{octets_words, inside_store}
use Rattle.blocks.specs.declared.Block.{Block}
use Rattle.blocks.specs.Blocks.{memory_id, blocks_of, words_of}
use Rattle.blocks.proofs.WellFormed.{right_words}
use Rattle.tm.specs.Frame.{time_of}
use Rattle.tm.proofs.Frames.{frames_sized, after_in_range}
use Rattle.requests.specs.declared.Action.TheVariants.{Load}
use Rattle.requests.specs.declared.Request.TheVariants.{Memory}
use Rattle.requests.specs.declared.Request.{Request}
use Rattle.requests.specs.Request.{carried_by, most_words, area_named, outside_of}
use Rattle.addressing.specs.Requested.{service_rows}
use Rattle.decide.proofs.Decided.{accepted_facts, memory_facts}
use Rattle.memory.specs.Memory.{loaded, stored_of}
use Rattle.memory.proofs.Loaded.{Beyond, loaded-length, loaded_elsewhere, loaded_last, loaded_read}
use Rattle.terminal.specs.Outcome.{Input, reports_for, verdict_on, reports_on, frames_due, octets_due, outcome_of, store_on}
use Rattle.terminal.proofs.Answering.{accepted-due, accepted_store}
use Rattle.terminal.proofs.Due.{due_bounded, out_front}
use Rattle.terminal.proofs.Storing.{store_length, outside_areas_kept}
use Rattle.demands.specs.Terminal.{reference, asked_on}
use Rattle.demands.specs.Loading.{Over, Clear, Loads, GivesBack}
use Rattle.demands.specs.Serving.{due, frames, total, Serves, Bounded, Reports}

-- ---- after an accepted packet

-- Summed lengths are the length of what stands one behind another.
total-joined : (fs : List (List ℕ)) → length (joined fs) ≡ total fs
unfolding joined total
total-joined [] = refl
total-joined (f ∷ fs) = length-append f (joined fs) ∙ ap (λ (n : ℕ). length f + n) (total-joined fs)

accepted-frames : (i : Input) → is_accepted (verdict_on i) ≡ true → frames_due i ≡ frames i
unfolding reports_for frames_due
accepted-frames i h = rw (sym (accepted-due i h))

accepted-serves : (i : Input) → is_accepted (verdict_on i) ≡ true → Serves i (reference i)
unfolding reports_for outcome_of
accepted-serves i h =
    let same : frames_due i ≡ frames i = accepted-frames i h in
    let long : length (octets_due i) ≡ total (frames i) = ap (λ (fs : List (List ℕ)). length (joined fs)) same ∙ total-joined (frames i) in
    record {
      written = long;
      buffer = out_front i ∙ ap₂ (λ (o : List ℕ) (n : ℕ). o ++ drop n i.out) (ap joined same) long;
      state = rw (sym (accepted-due i h));
      store = sym (accepted_store i h);
      layout = frames_sized i.profile.pid (time_of i.time) i.state.counts (due i) refl (omega (arith, total-joined (frames i), long, due_bounded i));
    }

-- ---- what a load does

-- Where a block's words stand.
record Stands (a : Area) (d : List ℕ) (octets : ℕ) (b : Block) : Type 0 where
  long : length (words_of d b) ≡ octets_of a b.words
  room : octet_at a b.start + octets_of a b.words ≤ octets

module _ (a : Area) (d store : List ℕ) (stand : Each (Stands a d (length store)) (blocks_of (carried_by Load) d)) where
  beyond : (k : ℕ) (b : Block) → Stands a d (length store) b × (Over a k b → ⊥) → Beyond a d k b
  beyond k b h =
      by_order (octet_at a b.start) k
      (λ from. by_order (octet_at a b.start + octets_of a b.words) k (λ past. inr (omega (arith, h.0.long))) (λ to. absurd (h.1 (from, to))))
      (λ before. inl before)

  all_beyond : (k : ℕ) (bs : List Block) → Each (Stands a d (length store)) bs → Clear a k bs → Each (Beyond a d k) bs
  all_beyond k [] s c = tt
  all_beyond k (b ∷ bs) s c = (beyond k b (s.0, c.0), all_beyond k bs s.1 c.1)

  load_leaves : Loads a d store (loaded a d (blocks_of (carried_by Load) d) store)
  load_leaves = record {
    kept = λ k clear. loaded_elsewhere a d k (blocks_of (carried_by Load) d) store (all_beyond k (blocks_of (carried_by Load) d) stand clear);
    last = λ k before behind b e over clear.
        let all : Each (Stands a d (length store)) (before ++ b ∷ behind) = subst (Each (Stands a d (length store))) e stand in
        let here = each_behind (Stands a d (length store)) before (b ∷ behind) all in
        ap (λ (bs : List Block). Rattle.octets.specs.Numbers.octet (loaded a d bs store) k) e
        ∙ loaded_last a d k before behind b store over.0 (omega (arith, here.0.long, over.1)) (omega (arith, here.0.room, over.1))
        (all_beyond k behind here.1 clear);
    long = loaded-length a d (blocks_of (carried_by Load) d) store;
  }

-- The words of well formed blocks inside a sound area stand in the store.
all_stand : (a : Area) (d : List ℕ) (octets : ℕ) → area_sound octets a ≡ true → (bs : List Block)
    → Each (λ (b : Block). length (words_of d b) ≡ b.words * word_octets) bs → Each (λ (b : Block). inside a b.start b.words ≡ true) bs
    → Each (Stands a d octets) bs
all_stand a d octets sound [] words in_area_lem = tt
all_stand a d octets sound (b ∷ bs) words in_area_lem = (
  record { long = words.0 ∙ sym (octets_words a b.words); room = inside_store octets a b.start b.words sound in_area_lem.0 },
  all_stand a d octets sound bs words.1 in_area_lem.1,
)

-- What is known of an accepted load.
record Loading (i : Input) (x : Area) : Type 0 where
  stand : Each (Stands x (application_of i.packet) (length i.store)) (blocks_of (carried_by Load) (application_of i.packet))
  store_is : store_on i ≡ loaded x (application_of i.packet) (blocks_of (carried_by Load) (application_of i.packet)) i.store

module _ (i : Input) (x : Area) (h : is_accepted (verdict_on i) ≡ true) (asks : asked_on i ≡ Some (Memory Load))
    (named : area_named i.profile (application_of i.packet) ≡ Some x) where
  loading : Loading i x
  unfolding outside_of
  loading =
      let d : List ℕ = application_of i.packet in
      let facts = accepted_facts i.profile i.state (length i.store) (length i.out) i.packet h in
      let m = memory_facts i.profile Load d (subst (λ (asked : Option Request). AllHold (service_rows i.profile asked d)) asks facts.service) in
      let same : m.area ≡ x = cc (m.named, named) in
      let none : outside_of x (blocks_of (carried_by Load) d) ≡ 0 = rw (sym same) m.inside in
      let area = found_sound i.profile (length i.store) (memory_id d) x facts.caller.sound named in
      record {
        stand =
            all_stand x d (length i.store) area (blocks_of (carried_by Load) d) (right_words (carried_by Load) (most_words Load) d m.formed.1)
            (none_each (λ (b : Block). inside x b.start b.words) (blocks_of (carried_by Load) d) 1 (omega arith) none);
        store_is = sym (accepted_store i h) ∙ rw (asks, named);
      }

  accepted_loads : Loads x (application_of i.packet) i.store (store_on i)
  accepted_loads =
      subst (Loads x (application_of i.packet) i.store) (sym loading.store_is) (load_leaves x (application_of i.packet) i.store loading.stand)

-- The last block of a load gives back its words.
accepted_gives_back : (i : Input) (x : Area) (before : List Block) (b c : Block) → is_accepted (verdict_on i) ≡ true → asked_on i ≡ Some (Memory Load)
    → area_named i.profile (application_of i.packet) ≡ Some x → blocks_of (carried_by Load) (application_of i.packet) ≡ before ++ b ∷ []
    → c.start ≡ b.start → c.words ≡ b.words → GivesBack x (application_of i.packet) (store_on i) b c
accepted_gives_back i x before b c h asks named e start size =
    let d : List ℕ = application_of i.packet in
    let l = loading i x h asks named in
    let all : Each (Stands x d (length i.store)) (before ++ b ∷ []) = subst (Each (Stands x d (length i.store))) e l.stand in
    let here = (each_behind (Stands x d (length i.store)) before (b ∷ []) all).0 in
    let read : stored_at x (store_on i) b.start b.words ≡ words_of d b =
    ap (λ (s : List ℕ). stored_at x s b.start b.words) (l.store_is ∙ ap (λ (bs : List Block). loaded x d bs i.store) e)
    ∙ loaded_read x d before b i.store here.long (omega (arith, here.long, here.room)) in
    let words : stored_of x (store_on i) c ≡ words_of d b = rw (start, size) read in
    record {
      words = words;
      dump = λ memory. rw (words, start, size);
      check = rw (words, start, size);
    }

-- ---- after any packet

every_packet_bounded : (i : Input) → Bounded i (reference i)
unfolding outcome_of
every_packet_bounded i = record {
  most = due_bounded i;
  counts = after_in_range i.state.counts (reports_on i);
  long = store_length i;
  elsewhere = outside_areas_kept i;
}

-- The terminal reports as the demand has it. Ruled out: one that refuses everything or returns one fixed report, one that writes no words, one whose earlier block stays where two overlap, one that lays its frames one octet further on, one with one count for both categories.
pub terminal_reports : Reports reference
terminal_reports = record { serves = accepted-serves; loads = accepted_loads; gives_back = accepted_gives_back; bounded = every_packet_bounded }
