-- What a wider profile allows and does with a request: all that the narrower allows, and for a request that the narrower accepts, the same.
-- Assumes nothing.
use Rattle.std.specs.Prelude.{Some, None, Option}
use mathlib.Core.Path.{◌≡◌, refl, sym, ◌∙◌}
use mathlib.Core.Bool.{true, false, false≢true}
use mathlib.Core.Logic.{◌⊎◌, ⊎_elim}
use mathlib.Core.List.{List, [], ◌∷◌, map}
use Prim.Native.Nat.{ℕ, ◌≤◌}
use native.Mathlib.Omega.{arith}
use borrow.Author.Tests.{eqb-true, eq-eqb}
use Rattle.laws.specs.Each.{Each}
use Rattle.laws.proofs.First.{none_each, implied_later}
use Rattle.octets.specs.Copy.{laid}
use Rattle.checks.specs.Table.{AllHold}
use Rattle.map.specs.declared.Rights.{Rights}
use Rattle.map.specs.declared.Area.{Area}
use Rattle.map.specs.declared.Profile.{Profile}
use Rattle.map.specs.Place.{inside, octet_at}
use Rattle.wider.specs.Wider.{keeps_rights, covers, wider}
use Rattle.wider.proofs.Keeping.{rights_kept}
use Rattle.map.proofs.Octets.{inside_facts}
use Rattle.wider.proofs.Covering.{covers_facts, covers-octet, covers_stored, covers-inside}
use Rattle.wider.proofs.Widening.{wider_finds, Widened, nowhere, widening}
use Rattle.blocks.specs.declared.Block.{Block}
use Rattle.blocks.specs.Blocks.{memory_id, blocks_of, words_of}
use Rattle.requests.specs.declared.Action.{Action}
use Rattle.requests.specs.declared.Action.TheVariants.{Load, Dump, Check}
use Rattle.requests.specs.declared.Request.TheVariants.{Memory, Connection}
use Rattle.requests.specs.declared.Request.{Request}
use Rattle.requests.specs.Request.{right_for, carried_by, is_found, outside_of}
use Rattle.serving.specs.Services.{has_right, outside_number, all_inside}
use Rattle.addressing.specs.Requested.{service_rows, task_for}
use Rattle.decide.proofs.Decided.{memory_facts}
use Rattle.memory.specs.Memory.{entries_of, loaded}
use Rattle.laying.specs.Reports.{dumped}
use Rattle.terminal.specs.Done.{memory_done, done}

-- ---- what the narrower's area allows, the wider's allows

-- An area.
pub found_grows : {o p : Option Area} → Widened o p → is_found o ≡ true → is_found p ≡ true
found_grows nowhere h = absurd (false≢true h)
found_grows (widening c) h = refl

right_kept : (wide narrow : Rights) (action : Action) → keeps_rights wide narrow ≡ true → right_for narrow action ≡ true → right_for wide action ≡ true
right_kept wide narrow Load k h = (rights_kept wide narrow k).load h
right_kept wide narrow Dump k h = (rights_kept wide narrow k).dump h
right_kept wide narrow Check k h = (rights_kept wide narrow k).check h

-- The right.
pub right_grows : {o p : Option Area} (action : Action) → Widened o p → has_right o action ≡ true → has_right p action ≡ true
right_grows action nowhere h = absurd (false≢true h)
right_grows action (widening {a = a} {b = b} c) h = right_kept b.rights a.rights action (covers_facts b a c).rights h

-- No block is outside a covering area, or one is outside the covered area too, and no later.
outside_covered : (a b : Area) → covers b a ≡ true → (blocks : List Block)
    → (outside_of b blocks ≡ 0) ⊎ ((1 ≤ outside_of a blocks) × (outside_of a blocks ≤ outside_of b blocks))
unfolding outside_of
outside_covered a b c blocks =
    implied_later (λ (x : Block). inside a x.start x.words) (λ (x : Block). inside b x.start x.words)
    blocks 1 (omega arith) (λ x. covers-inside b a x.start x.words c)

-- The wider's first block outside comes no earlier, where it has one.
pub outside_later : {o p : Option Area} (action : Action) (d : List ℕ) → Widened o p
    → all_inside p action d ≡ false → outside_number o action d ≤ outside_number p action d
outside_later action d nowhere h = omega arith
outside_later action d (widening {a = a} {b = b} c) h =
    ⊎_elim (λ e. absurd (false≢true (sym h ∙ eq-eqb _ _ e))) (λ r. r.1) (outside_covered a b c (blocks_of (carried_by action) d))

-- That every block is inside.
pub inside_grows : {o p : Option Area} (action : Action) (d : List ℕ) → Widened o p → all_inside o action d ≡ true → all_inside p action d ≡ true
inside_grows action d nowhere h = absurd (false≢true h)
inside_grows action d (widening {a = a} {b = b} c) h =
    let inner : outside_of a (blocks_of (carried_by action) d) ≡ 0 = eqb-true _ _ h in
    ⊎_elim (λ e. eq-eqb _ _ e) (λ r. absurd (omega (arith, r.0))) (outside_covered a b c (blocks_of (carried_by action) d))

-- ---- a request whose blocks are inside an area is served the same by one that covers it

module _ (a b : Area) (covering : covers b a ≡ true) where
  -- A block lies inside the covered area.
  abbrev Inner : Block → Type 0
  Inner x = inside a x.start x.words ≡ true

  dumps_same : (memory : ℕ) (store : List ℕ) (blocks : List Block) → Each Inner blocks
      → map (dumped b memory store) blocks ≡ map (dumped a memory store) blocks
  dumps_same memory store [] h = refl
  dumps_same memory store (x ∷ blocks) h =
      rw (covers_stored b a store x.start x.words covering h.0, dumps_same memory store blocks h.1)

  entries_same : (store : List ℕ) (blocks : List Block) → Each Inner blocks → entries_of b store blocks ≡ entries_of a store blocks
  unfolding entries_of
  entries_same store [] h = refl
  entries_same store (x ∷ blocks) h =
      rw (covers_stored b a store x.start x.words covering h.0, entries_same store blocks h.1)

  loaded_same : (d : List ℕ) (blocks : List Block) (store : List ℕ) → Each Inner blocks → loaded b d blocks store ≡ loaded a d blocks store
  unfolding loaded
  loaded_same d [] store h = refl
  loaded_same d (x ∷ blocks) store h =
      rw (covers-octet b a x.start covering (inside_facts a x.start x.words h.0).from)
      (loaded_same d blocks (laid store (octet_at a x.start) (words_of d x)) h.1)

  memory_same : (action : Action) (d store : List ℕ) → Each Inner (blocks_of (carried_by action) d)
      → memory_done b action d store ≡ memory_done a action d store
  memory_same Load d store h = rw (loaded_same d (blocks_of (carried_by Load) d) store h)
  memory_same Dump d store h = rw (dumps_same (memory_id d) store (blocks_of (carried_by Dump) d) h)
  memory_same Check d store h = rw (entries_same store (blocks_of (carried_by Check) d) h)

-- A request that the narrower accepts has the same done by the wider.
pub done_same : (wide narrow : Profile) (octets : ℕ) (asked : Option Request) (d store : List ℕ)
    → wider wide narrow octets ≡ true → AllHold (service_rows narrow asked d)
    → done (task_for wide asked d) d store ≡ done (task_for narrow asked d) d store
unfolding outside_of
done_same wide narrow octets (Some (Memory action)) d store w all =
    let m = memory_facts narrow action d all in
    let f = wider_finds wide narrow octets (memory_id d) m.area w m.named in
    rw (m.named, f.1)
    (memory_same m.area f.0 f.2 action d store
    (none_each (λ (x : Block). inside m.area x.start x.words) (blocks_of (carried_by action) d) 1 (omega arith) m.inside))
done_same wide narrow octets (Some Connection) d store w all = refl
done_same wide narrow octets None d store w all = refl
