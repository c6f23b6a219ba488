-- The tables of checks of a narrower profile and of a wider one for one packet, side by side, row by row.
-- Assumes nothing.
use Rattle.std.specs.Prelude.{Some, None, Ok, Err, Option}
use mathlib.Core.Path.{◌≡◌, refl, sym, ap, ◌∙◌}
use mathlib.Core.Bool.{Bool, true, false, ◌&&◌, ◌||◌, false≢true}
use mathlib.Core.List.{List, [], ◌∷◌}
use Prim.Native.Nat.{ℕ, ◌≤◌}
use native.Mathlib.Omega.{arith}
use lib.ListN.{length, get_or, drop}
use lib.Dec.{eqb, leb}
use borrow.Author.Tests.{leb-true}
use Rattle.laws.specs.Each.{every, among}
use Rattle.laws.proofs.Tests.{by-test, both}
use Rattle.fields.specs.Fields.{apid_of}
use Rattle.checks.specs.declared.Refusal.{Refusal}
use Rattle.checks.specs.Table.{Row, answer}
use Rattle.checks.specs.Verdict.{check_number, verdict_by}
use Rattle.checks.proofs.Table.{Beside, none, more, same_row, parting-row, beside_self, beside_append, beside_same}
use Rattle.tc.specs.declared.Fields.{Fields}
use Rattle.tc.specs.Layout.{category, fields_of, application_of}
use Rattle.reader.specs.Reader.{reader_rows}
use Rattle.map.specs.declared.Flags.{Flags}
use Rattle.map.specs.declared.Profile.{Profile}
use Rattle.wider.specs.Wider.{wider}
use Rattle.wider.proofs.Keeping.{KeptFlags, flags_kept}
use Rattle.wider.proofs.Widening.{WiderFacts, wider_facts, Widened, widened}
use Rattle.blocks.specs.Blocks.{memory_id}
use Rattle.decide.specs.declared.State.{State}
use Rattle.requests.specs.declared.Action.{Action}
use Rattle.requests.specs.declared.Action.TheVariants.{Load, Dump, Check}
use Rattle.requests.specs.declared.Request.TheVariants.{Memory, Connection}
use Rattle.requests.specs.declared.Request.{Request}
use Rattle.requests.specs.Request.{memory_type, connection_type, serves, flag_for, offers, area_named}
use Rattle.decide.specs.Table.{caller_right, caller_rows, rows, decided}
use Rattle.serving.specs.Services.{area_rows, memory_rows, connection_rows}
use Rattle.addressing.specs.Requested.{service_rows, asked_by, request_rows}
use Rattle.demands.specs.Refusing.{numbers_of, table_numbers}
use Rattle.demands.specs.Widening.{parts, order, place_in, rank}
use Rattle.demands.proofs.Widened.{found_grows, right_grows, inside_grows}

-- ---- what wider flags offer

or_grows : (a b c d : Bool) → (a ≡ true → c ≡ true) → (b ≡ true → d ≡ true) → a || b ≡ true → c || d ≡ true
or_grows true b c d f g h = rw (f refl)
or_grows false b true d f g h = refl
or_grows false b false d f g h = g h

module _ (wide narrow : Flags) (kept : KeptFlags wide narrow) where
  serves_grows : (kind : ℕ) → serves narrow kind ≡ true → serves wide kind ≡ true
  unfolding serves
  serves_grows kind h =
      by-test (eqb kind memory_type)
      (λ t. rw t (or_grows _ _ _ _ (or_grows _ _ _ _ kept.load kept.dump) kept.check (rw t at h)))
      (λ f.
      by-test (eqb kind connection_type)
      (λ t. rw (f, t) (kept.connection (rw (f, t) at h)))
      (λ g. absurd (false≢true (rw (f, g) at h))))

  flag_grows : (action : Action) → flag_for narrow action ≡ true → flag_for wide action ≡ true
  flag_grows Load = kept.load
  flag_grows Dump = kept.dump
  flag_grows Check = kept.check

  offers_grows : (asked : Option Request) → offers narrow asked ≡ true → offers wide asked ≡ true
  offers_grows (Some (Memory action)) = flag_grows action
  offers_grows (Some Connection) = kept.connection
  offers_grows None = λ h. h

-- ---- the whole table

-- Two tables side by side, where the rows of those refusals may part.
abbrev Together : List (Row Refusal) → List (Row Refusal) → Type 0
Together narrow wide = Beside (λ r. parts (Err r)) narrow wide

module _ (wide narrow : Profile) (octets : ℕ) (w : wider wide narrow octets ≡ true) where
  facts : WiderFacts wide narrow octets
  facts = wider_facts wide narrow octets w

  kept : KeptFlags wide.flags narrow.flags
  kept = flags_kept wide.flags narrow.flags facts.flags

  caller_beside : (state : State) (out : ℕ) → Together (caller_rows narrow state octets out) (caller_rows wide state octets out)
  unfolding caller_rows caller_right
  caller_beside state out =
      let right : caller_right wide state octets ≡ caller_right narrow state octets = rw (facts.wide-sound, facts.narrow-sound) in
      more (same_row refl refl) (more (same_row refl right) none)

  -- The rows of each service, by what is asked.
  service_beside : (asked : Option Request) (d : List ℕ) → Together (service_rows narrow asked d) (service_rows wide asked d)
  unfolding memory_rows area_rows among
  service_beside (Some (Memory action)) d =
      let found : Widened (area_named narrow d) (area_named wide d) = widened wide narrow octets (memory_id d) w in
      more (same_row refl refl)
      (more (same_row refl refl)
      (more (parting-row refl (found_grows found))
      (more (parting-row refl (right_grows action found))
      (more (parting-row refl (inside_grows action d found)) none))))
  service_beside (Some Connection) d = beside_self (connection_rows d)
  service_beside None d = none

  request_beside : (f : Fields) (d : List ℕ) → Together (request_rows narrow f d) (request_rows wide f d)
  unfolding request_rows among
  request_beside f d =
      let apid : eqb f.apid (apid_of wide.pid category) ≡ eqb f.apid (apid_of narrow.pid category) = rw facts.pid in
      more (same_row refl apid)
      (more (parting-row refl (serves_grows wide.flags narrow.flags kept f.kind))
      (more (parting-row refl (offers_grows wide.flags narrow.flags kept (asked_by f)))
      (service_beside (asked_by f) d)))

  module _ (state : State) (out : ℕ) (packet : List ℕ) where
    rows_beside : Together (rows narrow state octets out packet) (rows wide state octets out packet)
    unfolding rows
    rows_beside =
        beside_append (caller_beside state out)
        (beside_append (beside_self (reader_rows packet)) (request_beside (fields_of packet) (application_of packet)))

    -- Unless the narrower refuses by a number that may part, both verdicts are the same.
    pub same_verdict : parts (decided narrow state octets out packet) ≡ false
        → decided wide state octets out packet ≡ decided narrow state octets out packet
    unfolding decided
    same_verdict h = beside_same (Ok tt) Err parts rows_beside (λ r. refl) h

-- ---- the same check or a later one

-- The place of a row's number in checking order.
abbrev rank_of : Row Refusal → ℕ
rank_of r = place_in (check_number r.refusal.check) order

-- Some numbers stand in checking order.
unfoldable ascends : List ℕ → Bool
ascends [] = true
ascends (n ∷ rest) = every (λ m. leb (place_in n order) (place_in m order)) rest && ascends rest

-- So do those of every table.
table_ascends : (asked : Option Request) → ascends (table_numbers asked) ≡ true
unfolding ascends every place_in
table_ascends (Some (Memory action)) = refl
table_ascends (Some Connection) = refl
table_ascends None = refl

place_most : (n : ℕ) (l : List ℕ) → place_in n l ≤ length l
unfolding place_in
place_most n [] = omega arith
place_most n (x ∷ l) = by-test (eqb n x) (λ t. rw t (omega arith)) (λ f. rw f (omega (arith, place_most n l)))

-- A table whose numbers all come from a place on decides a verdict from there on.
least_rank : (k : ℕ) (table : List (Row Refusal)) → k ≤ length order → every (λ m. leb k (place_in m order)) (numbers_of table) ≡ true → k ≤ rank (verdict_by table)
unfolding every answer
least_rank k [] h e = h
least_rank k (r ∷ rest) h e =
    let s = both (leb k (rank_of r)) (every (λ m. leb k (place_in m order)) (numbers_of rest)) e in
    by-test r.holds (λ t. rw t (least_rank k rest h s.1)) (λ f. rw f (leb-true k (rank_of r) s.0))

-- Of two tables side by side with the same numbers in checking order, the wider never refuses at an earlier check.
later : {ns ws : List (Row Refusal)} → Together ns ws → numbers_of ns ≡ numbers_of ws → ascends (numbers_of ws) ≡ true → rank (verdict_by ns) ≤ rank (verdict_by ws)
unfolding answer ascends
later none e a = omega arith
later (more {n = n} {w = w} {ns = ns} {ws = ws} g rest) e a =
    let s = both (every (λ m. leb (rank_of w) (place_in m order)) (numbers_of ws)) (ascends (numbers_of ws)) a in
    let same : rank_of n ≡ rank_of w = ap (λ (l : List ℕ). place_in (get_or l 0 0) order) e in
    let behind : numbers_of ns ≡ numbers_of ws = ap (λ (l : List ℕ). drop 1 l) e in
    by-test n.holds
    (λ t. rw (t, g.grows t) (later rest behind s.1))
    (λ f.
    by-test w.holds
    (λ u. rw (f, u, same) (least_rank (rank_of w) ws (place_most (check_number w.refusal.check) order) s.0))
    (λ v. rw (f, v, same) (omega arith)))

-- On one packet, from the same start, the wider's verdict is at the same check or a later one.
pub no_earlier : (wide narrow : Profile) (state : State) (octets out : ℕ) (packet : List ℕ) → wider wide narrow octets ≡ true
    → numbers_of (rows narrow state octets out packet) ≡ table_numbers (asked_by (fields_of packet)) → numbers_of (rows wide state octets out packet) ≡ table_numbers (asked_by (fields_of packet))
    → rank (decided narrow state octets out packet) ≤ rank (decided wide state octets out packet)
unfolding decided
no_earlier wide narrow state octets out packet w n v =
    later (rows_beside wide narrow octets w state out packet) (n ∙ sym v) (rw v (table_ascends (asked_by (fields_of packet))))
