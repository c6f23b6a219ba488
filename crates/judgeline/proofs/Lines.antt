-- What the judge does with a line, case by case: outside of a group, and inside of one.
-- Assumes nothing.
use mathlib.Core.Path.{◌≡◌, refl, sym, ap, ap₂, ◌∙◌}
use mathlib.Core.Bool.{Bool, true, false, cond}
use mathlib.Core.List.{List, [], ◌∷◌}
use Prim.Native.Nat.{ℕ}
use native.Mathlib.Omega.{arith}
use lib.ListN.{length}
use Rattle.laws.proofs.Tests.{by-test}
use Rattle.characters.specs.Digits.{octets_in}
use Rattle.saying.proofs.Saying.{says_none}
use Rattle.packetline.specs.Packet.{is_packet}
use Rattle.terminal.specs.declared.Outcome.{Outcome}
use Rattle.terminal.specs.Outcome.{Answered, octets_due}
use Rattle.terminal.proofs.Due.{written_due}
use Rattle.hexline.specs.Line.{packet_input, packet_in}
use Rattle.hexline.proofs.Serving.{served_said}
use Rattle.packline.specs.Record.{halt_of}
use Rattle.packline.specs.declared.Halt.TheVariants.{Differs as halt_differs}
use Rattle.beside.specs.Beside.{agrees}
use Rattle.spelling.specs.Spelling.{spells_frame}
use Rattle.spelling.proofs.Spelled.{spells_packet, spells_agrees}
use Rattle.differing.specs.Differing.{differs_text}
use Rattle.grouping.specs.declared.Group.{Group}
use Rattle.grouping.specs.Group.{due_at, opened}
use Rattle.desk.specs.declared.Desk.{Desk}
use Rattle.desk.specs.Place.{Place, profile_at, station_at, with_state, with_group, halting, at_desk}
use Rattle.judgeline.specs.declared.Found.{Found}
use Rattle.judgeline.specs.declared.Found.TheVariants.{Agrees, Differs, Bad}
use Rattle.judgeline.specs.Step.{bad_says, served_at, outside_says, outside_becomes, found_by, found_says, agreed_desk, found_desk, inside_says, inside_desk}

-- ---- outside of a group

module _ (m : Place) (line : List ℕ) where
  pub outside_empty : length line ≡ 0 → (outside_says m line ≡ []) × (outside_becomes m line ≡ m)
  unfolding outside_says outside_becomes
  outside_empty e = empty line e
    where
      empty : (l : List ℕ) → length l ≡ 0 → (outside_says m l ≡ []) × (outside_becomes m l ≡ m)
      empty [] e = (refl, refl)
      empty (c ∷ l) e = absurd (omega arith)

  pub outside_packet : (length line ≡ 0 → ⊥) → is_packet line ≡ true → (outside_says m line ≡ []) × (outside_becomes m line ≡ served_at m line)
  unfolding outside_says outside_becomes
  outside_packet n t = some line n t
    where
      some : (l : List ℕ) → (length l ≡ 0 → ⊥) → is_packet l ≡ true → (outside_says m l ≡ []) × (outside_becomes m l ≡ served_at m l)
      some [] n t = absurd (n refl)
      some (c ∷ l) n t = rw t (refl, refl)

  pub outside_bad : (length line ≡ 0 → ⊥) → is_packet line ≡ false
      → (outside_says m line ≡ bad_says m.desk.number (halt_of line)) × (outside_becomes m line ≡ at_desk m (halting m.desk (halt_of line)))
  unfolding outside_says outside_becomes
  outside_bad n t = some line n t
    where
      some : (l : List ℕ) → (length l ≡ 0 → ⊥) → is_packet l ≡ false
          → (outside_says m l ≡ bad_says m.desk.number (halt_of l)) × (outside_becomes m l ≡ at_desk m (halting m.desk (halt_of l)))
      some [] n t = absurd (n refl)
      some (c ∷ l) n t = rw t (refl, refl)

  -- A packet that the terminal answered.
  pub served_place : (group : Group) (with-group desk : Desk) {r : Outcome} {store out : List ℕ} → Answered (packet_input (profile_at m) (station_at m) (packet_in line)) r store out
      → group ≡ opened m.desk.group m.desk.number r.written → with-group ≡ with_group m.desk group → desk ≡ with_state with-group r.state
      → ◌≡◌ {A = Place} (record { desk = desk; store = store; out = out }) (served_at m line)
  served_place group with-group desk {r = r} a e f h =
      let said = served_said (profile_at m) (station_at m) (packet_in line) a (says_none {d = []} {at = 0} {r = 0} refl) in
      let written : r.written ≡ length (octets_due (packet_input (profile_at m) (station_at m) (packet_in line))) =
      ap (λ (o : Outcome). o.written) a.outcome_is ∙ written_due (packet_input (profile_at m) (station_at m) (packet_in line)) in
      let grouped : with-group ≡ with_group m.desk (opened m.desk.group m.desk.number (length (octets_due (packet_input (profile_at m) (station_at m) (packet_in line))))) =
      f ∙ ap (λ (g : Group). with_group m.desk g) (e ∙ ap (λ (n : ℕ). opened m.desk.group m.desk.number n) written) in
      λ i. record { desk = (h ∙ ap₂ with_state grouped said.state_is) i; store = said.store_is i; out = said.out_is i }

-- ---- inside of a group

module _ (g : Group) (out line frame : List ℕ) (e : frame ≡ due_at g out) where
  -- A line that spells the frame due agrees with it.
  pub found_spelled : spells_frame frame line ≡ true → Agrees ≡ found_by g out line
  unfolding found_by
  found_spelled t =
      let a : agrees (due_at g out) (octets_in line) ≡ true = ap (λ (f : List ℕ). agrees f (octets_in line)) (sym e) ∙ spells_agrees frame line t in
      sym (rw (spells_packet frame line t, a) refl)

  -- A packet line of which the octets agree with the frame due agrees, and any other differs.
  pub found_as : {r : Bool} (found : Found) → cond r Agrees Differs ≡ found → is_packet line ≡ true → agrees frame (octets_in line) ≡ r → found ≡ found_by g out line
  unfolding found_by
  found_as found f good t =
      sym (rw good (ap (λ (b : Bool). cond b Agrees Differs) (ap (λ (x : List ℕ). agrees x (octets_in line)) (sym e) ∙ t) ∙ f))

pub found_bad : (g : Group) (out line : List ℕ) → is_packet line ≡ false → Bad ≡ found_by g out line
unfolding found_by
found_bad g out line t = sym (rw t refl)

-- A line that differs is a packet line.
pub differs_packet : (g : Group) (out line : List ℕ) → Differs ≡ found_by g out line → is_packet line ≡ true
unfolding found_by
differs_packet g out line e = by-test (is_packet line) (λ t. t) (λ w. let z : ◌≡◌ {A = Found} Differs Bad = rw w at e in cc)

module _ (d : Desk) (out line : List ℕ) where
  -- By what a line is found to be.
  pub inside_found : (found : Found) → found ≡ found_by d.group out line → (found_says found d out line ≡ inside_says d out line) × (found_desk found d out line ≡ inside_desk d out line)
  unfolding inside_says inside_desk
  inside_found found e = (ap (λ (f : Found). found_says f d out line) e, ap (λ (f : Found). found_desk f d out line) e)

  pub inside_bad : is_packet line ≡ false → (bad_says d.number (halt_of line) ≡ inside_says d out line) × (halting d (halt_of line) ≡ inside_desk d out line)
  inside_bad t = inside_found Bad (found_bad d.group out line t)

  module _ (frame : List ℕ) (e : frame ≡ due_at d.group out) (good : is_packet line ≡ true) where
    pub inside-agrees : agrees frame (octets_in line) ≡ true → ([] ≡ inside_says d out line) × (agreed_desk d out line ≡ inside_desk d out line)
    inside-agrees t = inside_found Agrees (found_as d.group out line frame e Agrees refl good t)

    pub inside_differs : agrees frame (octets_in line) ≡ false
        → (differs_text d.number d.group.packet frame line ≡ inside_says d out line) × (halting d halt_differs ≡ inside_desk d out line)
    inside_differs t =
        let f = inside_found Differs (found_as d.group out line frame e Differs refl good t) in
        (ap (λ (x : List ℕ). differs_text d.number d.group.packet x line) e ∙ f.0, f.1)
