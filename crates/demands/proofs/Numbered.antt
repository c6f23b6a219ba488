-- On one packet a refusal's number settles all of it, but for 19, whose detail depends on the profile.
-- Assumes nothing.
use Rattle.std.specs.Prelude.{Some, None, Err, Option}
use mathlib.Core.Path.{◌≡◌, refl, sym, ap, ◌∙◌}
use mathlib.Core.Logic.{◌⊎◌, inl, inr}
use mathlib.Core.Bool.{true, false, cond, false≢true}
use mathlib.Core.List.{List}
use Prim.Native.Nat.{ℕ, ◌+◌, ◌*◌, ◌≤◌}
use lib.Dec.{eqb}
use Rattle.laws.specs.Each.{Each, among}
use Rattle.laws.proofs.Tests.{by-test}
use Rattle.checks.specs.declared.Check.TheVariants.{Service, Subtype, Memory, Right, Outside}
use Rattle.checks.specs.declared.Refusal.{Refusal}
use Rattle.checks.specs.Table.{Row}
use Rattle.checks.specs.Verdict.{check_number, is_accepted, number_of, refusal, row}
use Rattle.checks.proofs.Table.{first-row}
use Rattle.checks.proofs.Verdicts.{refused-first}
use Rattle.tc.specs.declared.Fields.{Fields}
use Rattle.tc.specs.Layout.{fields_of, application_of}
use Rattle.reader.specs.Reader.{reader_rows}
use Rattle.map.specs.declared.Profile.{Profile}
use Rattle.wider.specs.Wider.{wider}
use Rattle.wider.proofs.Widening.{widened}
use Rattle.blocks.specs.Blocks.{memory_id}
use Rattle.decide.specs.declared.State.{State}
use Rattle.requests.specs.declared.Action.{Action}
use Rattle.requests.specs.declared.Request.TheVariants.{Memory as Asks, Connection}
use Rattle.requests.specs.declared.Request.{Request}
use Rattle.requests.specs.Request.{area_named}
use Rattle.serving.specs.Services.{outside_number, all_inside, area_rows, memory_rows, connection_rows}
use Rattle.decide.specs.Table.{caller_rows, rows, decided}
use Rattle.addressing.specs.Requested.{service_rows, asked_by, request_rows}
use Rattle.demands.proofs.Widened.{outside_later}
use Rattle.demands.specs.Widening.{parts}
use Rattle.demands.proofs.Rows.{same_verdict}

-- ---- what a number that may part settles

-- The number of a row's refusal.
abbrev number : Row Refusal → ℕ
number x = check_number x.refusal.check

-- The refusal by 3, 4, 17 or 18 of a packet with those fields and that application data.
named : Fields → List ℕ → ℕ → Refusal
named f d n =
    cond (eqb n 3) (refusal Service f.kind)
    (cond (eqb n 4) (refusal Subtype (f.kind * 256 + f.subtype))
    (cond (eqb n 17) (refusal Memory (memory_id d)) (refusal Right (memory_id d))))

-- The row of 19.
abbrev outside_row : Profile → Action → List ℕ → Row Refusal
outside_row p action d = row Outside (outside_number (area_named p d) action d) (all_inside (area_named p d) action d)

-- A row is settled by its number, where that may part: for 19 by the action asked, and then the whole row; else the refusal.
record Settled (p : Profile) (f : Fields) (asked : Option Request) (d : List ℕ) (x : Row Refusal) : Type 0 where
  outside : eqb (number x) 19 ≡ true → (action : Action) × (asked ≡ Some (Asks action)) × (x ≡ outside_row p action d)
  other : eqb (number x) 19 ≡ false → parts (Err x.refusal) ≡ true → x.refusal ≡ named f d (number x)

module _ {p : Profile} {f : Fields} {asked : Option Request} {d : List ℕ} {x : Row Refusal} (e : eqb (number x) 19 ≡ false) where
  -- A row whose number may not part.
  unparted : parts (Err x.refusal) ≡ false → Settled p f asked d x
  unparted h = record { outside = λ t. absurd (false≢true (sym e ∙ t)); other = λ _ t. absurd (false≢true (sym h ∙ t)) }

  -- A row of 3, 4, 17 or 18.
  refusing : x.refusal ≡ named f d (number x) → Settled p f asked d x
  refusing h = record { outside = λ t. absurd (false≢true (sym e ∙ t)); other = λ _ _. h }

-- Every row of the service asked is settled.
service_settled : (p : Profile) (f : Fields) (asked : Option Request) (d : List ℕ) → Each (Settled p f asked d) (service_rows p asked d)
unfolding memory_rows area_rows connection_rows among named
service_settled p f (Some (Asks action)) d =
    (unparted refl refl, (unparted refl refl, (refusing refl refl, (refusing refl refl, (record { outside = λ _. (action, refl, refl); other = λ e. absurd (false≢true (sym e)) }, tt)))))
service_settled p f (Some Connection) d = (unparted refl refl, tt)
service_settled p f None d = tt

-- So is every row of a packet's table.
settled : (p : Profile) (state : State) (store out : ℕ) (packet : List ℕ)
    → Each (Settled p (fields_of packet) (asked_by (fields_of packet)) (application_of packet)) (rows p state store out packet)
unfolding rows caller_rows reader_rows request_rows among named
settled p state store out packet =
    (unparted refl refl, (unparted refl refl, (unparted refl refl, (unparted refl refl, (unparted refl refl, (unparted refl refl, (unparted refl refl, (refusing refl refl, (refusing refl refl, service_settled p (fields_of packet) (asked_by (fields_of packet)) (application_of packet))))))))))

-- ---- two profiles

-- The row that a refusal comes from.
refused-row : (p : Profile) (state : State) (store out : ℕ) (packet : List ℕ) → is_accepted (decided p state store out packet) ≡ false
    → (r : Row Refusal) × (decided p state store out packet ≡ Err r.refusal)
    × Settled p (fields_of packet) (asked_by (fields_of packet)) (application_of packet) r × (r.holds ≡ false)
unfolding decided
refused-row p state store out packet h =
    let f = refused-first (rows p state store out packet) h in
    let s = first-row _ (rows p state store out packet) f.0 (settled p state store out packet) f.1 in
    (f.0, f.2, s.0, s.1)

-- Two refusals of one packet with the same number are the same, or both 19, the wider's with no smaller block number.
pub same_number : (wide narrow : Profile) (state : State) (store out : ℕ) (packet : List ℕ)
    → wider wide narrow store ≡ true
    → is_accepted (decided narrow state store out packet) ≡ false
    → is_accepted (decided wide state store out packet) ≡ false
    → number_of (decided narrow state store out packet) ≡ number_of (decided wide state store out packet)
    → (decided wide state store out packet ≡ decided narrow state store out packet)
    ⊎ ((k : ℕ) × (m : ℕ) × (decided narrow state store out packet ≡ Err (refusal Outside k)) × (decided wide state store out packet ≡ Err (refusal Outside m)) × (k ≤ m))
same_number wide narrow state store out packet w n v e =
    let f = fields_of packet in
    let d : List ℕ = application_of packet in
    let x = refused-row narrow state store out packet n in
    let y = refused-row wide state store out packet v in
    let same : number y.0 ≡ number x.0 = ap number_of (sym y.1) ∙ sym e ∙ ap number_of x.1 in
    by-test (parts (decided narrow state store out packet))
    (λ t.
    by-test (eqb (number x.0) 19)
    (λ q.
    let here = x.2.outside q in
    let there = y.2.outside (rw same q) in
    let action : there.0 ≡ here.0 = cc (here.1, there.1) in
    let row_is : y.0 ≡ outside_row wide here.0 d = rw action at there.2 in
    inr (
      outside_number (area_named narrow d) here.0 d,
      outside_number (area_named wide d) here.0 d,
      x.1 ∙ ap (λ (r : Row Refusal). Err r.refusal) here.2,
      y.1 ∙ ap (λ (r : Row Refusal). Err r.refusal) row_is,
      outside_later here.0 d (widened wide narrow store (memory_id d) w) (ap (λ (r : Row Refusal). r.holds) (sym row_is) ∙ y.3),
    ))
    (λ q.
    let one : x.0.refusal ≡ named f d (number x.0) = x.2.other q (ap parts (sym x.1) ∙ t) in
    let two : y.0.refusal ≡ named f d (number y.0) = y.2.other (rw same q) (rw same (ap parts (sym x.1) ∙ t)) in
    inl (y.1 ∙ ap Err (two ∙ ap (named f d) same ∙ sym one) ∙ sym x.1)))
    (λ u. inl (same_verdict wide narrow store w state out packet u))
