-- Whatever is said of a packet is so: the explainer of document 02 meets the demand, no other does, and it says what a terminal answers; wrong explainers, and examples by computation.
-- Assumes nothing.
use Rattle.std.specs.Prelude.{Ok, Err}
use mathlib.Core.Path.{◌≡◌, refl, sym, ap, subst, ◌∙◌}
use mathlib.Core.Bool.{Bool, true, false, false≢true}
use mathlib.Core.Logic.{◌⊎◌, inl, inr, ⊎_elim}
use mathlib.Core.List.{List, [], ◌∷◌, map}
use Prim.Native.Nat.{ℕ, ◌+◌, ◌-◌}
use native.Mathlib.Omega.{arith}
use lib.ListN.{length, replicate}
use lib.Dec.{leb}
use Rattle.laws.specs.Each.{every}
use Rattle.octets.specs.declared.copy.Span.{Span}
use Rattle.octets.specs.Numbers.{Octets}
use Rattle.octets.specs.Copy.{between}
use Rattle.octets.proofs.Octets.{octets_tested}
use Rattle.checks.specs.declared.Refusal.{Refusal}
use Rattle.checks.specs.Table.{Row, First, AllHold}
use Rattle.checks.proofs.Table.{answer-from, all-joined, first-joined}
use Rattle.checks.proofs.Verdicts.{first_refuses, all_accept}
use Rattle.map.specs.declared.Profile.{Profile}
use Rattle.blocks.specs.Blocks.{block_behind}
use Rattle.decide.specs.Table.{caller_rows, packet_rows, rows}
use Rattle.decide.specs.Octets.{block_octets, octets_of}
use Rattle.explaining.specs.declared.Reason.{Reason}
use Rattle.explaining.specs.Explanation.{Explanation}
use Rattle.explaining.specs.Explanation.{reason_for, explained_by, explanation_of}
use Rattle.terminal.specs.Outcome.{Input}
use Rattle.lineunit.specs.Unit.{line_profile}
use Rattle.demands.specs.Terminal.{Terminal}
use Rattle.demands.specs.Refusing.{Refuses}
use Rattle.demands.specs.Cases.{command, block, narrow}
use Rattle.demands.specs.Explaining.{Wrong, Explainer, reference_explainer, Tells, Explains, AgreesWith, SaysTheSame, ShowsFirstBlock, SkipsNoWords, HeaderFirst, second_outside, wrong_in_both, explained_packets, reasons, numbers_in}
use Rattle.demands.proofs.Computing.{all}
use Rattle.demands.proofs.Looking.{shows_first}

-- ---- acceptance and refusal, told apart

abbrev is_fine : Explanation → Bool
is_fine (Ok _) = true
is_fine (Err e) = false

abbrev reason_in : Explanation → Reason
reason_in (Ok _) = record { number = 0; detail = 0; first = 0; last = 0 }
reason_in (Err e) = e

fine_or_because : (x : Explanation) → (x ≡ Ok tt) ⊎ ((e : Reason) × (x ≡ Err e))
fine_or_because (Ok _) = inl refl
fine_or_because (Err e) = inr (e, refl)

module _ (p : Profile) (packet : List ℕ) where
  said_fine : AllHold (packet_rows p packet) → explanation_of p packet ≡ Ok tt
  unfolding explanation_of
  said_fine h = ap (explained_by packet) (all_accept (packet_rows p packet) h)

  said_because : (r : Row Refusal) → First (packet_rows p packet) r → explanation_of p packet ≡ Err (reason_for packet r.refusal)
  unfolding explanation_of
  said_because r f = ap (explained_by packet) (first_refuses (packet_rows p packet) r f)

  reason_tells : Octets packet → (r : Row Refusal) → First (packet_rows p packet) r → Tells p packet (reason_for packet r.refusal)
  reason_tells o r f =
      let shows = shows_first p packet o r f in
      let span : Span = octets_of packet r.refusal in
      let back : span.to - 1 + 1 ≡ span.to = omega (arith, shows.0) in
      record {
        check = r;
        fails = f;
        number = refl;
        detail = refl;
        offsets = ap (λ (n : ℕ). record { from = span.from; to = n }) back;
        wrong = subst (λ (n : ℕ). Wrong p packet r.refusal.check r.refusal.detail (between span.from n packet)) (sym back) shows.1;
      }

-- The explainer of document 02 meets the demand. Ruled out: one that names a later check, or shows octets in which nothing is wrong.
pub explainer_explains : Explains reference_explainer
explainer_explains = record {
  accepted = λ p packet o said.
      ⊎_elim
      (λ a. a)
      (λ f. absurd (false≢true (ap is_fine (sym (said_because p packet f.0 f.1) ∙ said))))
      (answer-from (packet_rows p packet));
  refused = λ p packet o e said.
      ⊎_elim
      (λ a. absurd (false≢true (ap is_fine (sym said ∙ said_fine p packet a))))
      (λ f. subst (Tells p packet) (ap reason_in (sym (said_because p packet f.0 f.1) ∙ said)) (reason_tells p packet o f.0 f.1))
      (answer-from (packet_rows p packet));
}

-- ---- no other

-- A reason that tells why is the one of the check that fails.
tells_one : (p : Profile) (packet : List ℕ) (e : Reason) → Tells p packet e → Err e ≡ explanation_of p packet
tells_one p packet e t =
    let r : Row Refusal = t.check in
    let last : e.last ≡ (octets_of packet r.refusal).to - 1 = omega (arith, ap (λ (s : Span). s.to) t.offsets) in
    ap Err (rw (t.number, t.detail, ap (λ (s : Span). s.from) t.offsets, last) refl) ∙ sym (said_because p packet r t.fails)

-- Whatever meets the demand says the same of every packet.
pub no_other_explainer : (f : Explainer) → Explains f → (p : Profile) (packet : List ℕ) → Octets packet → f p packet ≡ explanation_of p packet
no_other_explainer f explains p packet o =
    ⊎_elim
    (λ (e : f p packet ≡ Ok tt). e ∙ sym (said_fine p packet (explains.accepted p packet o e)))
    (λ (b : (e : Reason) × (f p packet ≡ Err e)). b.1 ∙ tells_one p packet b.0 (explains.refused p packet o b.0 b.1))
    (fine_or_because (f p packet))

-- ---- what a terminal answers

-- Past 40 and 41, a terminal that meets demand 1 answers the number and the detail that are told.
pub explained_as_answered : (f : Explainer) → Explains f → (t : Terminal) → Refuses t → (i : Input) → Octets i.packet
    → AllHold (caller_rows i.profile i.state (length i.store) (length i.out)) → AgreesWith (f i.profile i.packet) (t i).outcome.verdict
unfolding rows
explained_as_answered f explains t refuses i o caller =
    let p : Profile = i.profile in
    let packet : List ℕ = i.packet in
    let before : List (Row Refusal) = caller_rows p i.state (length i.store) (length i.out) in
    let said : f p packet ≡ explanation_of p packet = no_other_explainer f explains p packet o in
    ⊎_elim
    (λ (a : AllHold (packet_rows p packet)).
    rw (said ∙ said_fine p packet a, (refuses.decides i).accepts (all-joined before (packet_rows p packet) caller a)) tt)
    (λ (r : (r : Row Refusal) × First (packet_rows p packet) r).
    rw (said ∙ said_because p packet r.0 r.1, (refuses.decides i).refuses r.0 (first-joined before (packet_rows p packet) r.0 caller r.1)) (refl, refl))
    (answer-from (packet_rows p packet))

-- ---- wrong explainers

-- What it says of a packet of octets under the line program's profile.
module _ (f : Explainer) (explains : Explains f) (packet : List ℕ) (octets : every (λ (x : ℕ). leb x 255) packet ≡ true) where
  says : f line_profile packet ≡ explanation_of line_profile packet
  says = no_other_explainer f explains line_profile packet (octets_tested packet octets)

-- An empty packet and one of six zero octets are refused by different checks.
pub same_fails : (e : Explanation) (f : Explainer) → SaysTheSame e f → Explains f → ⊥
unfolding all explanation_of octets_of
same_fails e f same explains =
    let first : e ≡ explanation_of line_profile [] = sym (same line_profile []) ∙ says f explains [] refl in
    let second : e ≡ explanation_of line_profile (replicate 6 0) = sym (same line_profile (replicate 6 0)) ∙ says f explains (replicate 6 0) refl in
    omega (arith, ap (λ (x : Explanation). (reason_in x).number) (sym first ∙ second))

-- A load of two blocks, the second outside: it stands behind the words of the first.
pub first_block_fails : (f : Explainer) → ShowsFirstBlock f → Explains f → ⊥
unfolding all explanation_of octets_of block_octets block_behind
first_block_fails f shows explains = omega (arith, shows line_profile second_outside (reason_in (explanation_of line_profile second_outside)) (says f explains second_outside refl) refl)

pub no_words_fails : (f : Explainer) → SkipsNoWords f → Explains f → ⊥
unfolding all explanation_of octets_of block_octets block_behind
no_words_fails f skips explains = omega (arith, skips line_profile second_outside (reason_in (explanation_of line_profile second_outside)) (says f explains second_outside refl) refl)

-- A packet that is wrong in both.
pub header_first_fails : (f : Explainer) → HeaderFirst f → Explains f → ⊥
unfolding all explanation_of octets_of
header_first_fails f looks explains = omega (arith, looks line_profile wrong_in_both (reason_in (explanation_of line_profile wrong_in_both)) (says f explains wrong_in_both refl) refl)

-- ---- examples

-- Ruled out: any definition that gives another number, detail or offset on one of them.
pub explained_hold : map (λ (packet : List ℕ). numbers_in (explanation_of line_profile packet)) explained_packets ≡ reasons
unfolding all explanation_of octets_of block_octets block_behind
explained_hold = refl

-- 18, under a profile whose area has not the right to check.
pub right_explained : numbers_in (explanation_of narrow (command 6 9 (1 ∷ 1 ∷ block 0x1000 1))) ≡ 18 ∷ 1 ∷ 10 ∷ 10 ∷ []
unfolding all explanation_of octets_of
right_explained = refl
