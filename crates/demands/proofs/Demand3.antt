-- The third demand is met by the terminal of document 01.
-- Assumes nothing.
use Rattle.std.specs.Prelude.{Err}
use mathlib.Core.Path.{◌≡◌, refl, sym, ap, ap₂, subst, ◌∙◌}
use mathlib.Core.Logic.{inl, inr, ⊎_elim}
use mathlib.Core.List.{List, [], ◌∷◌, ◌++◌, append_assoc}
use Prim.Native.Nat.{ℕ, ◌+◌}
use native.Mathlib.Omega.{arith}
use lib.ListN.{length, drop, length-append}
use Rattle.laws.specs.Each.{among}
use Rattle.laws.specs.Fold.{answers}
use Rattle.octets.specs.Numbers.{octets16}
use Rattle.checks.specs.declared.Check.TheVariants.{Outside}
use Rattle.checks.specs.Verdict.{Verdict}
use Rattle.checks.specs.Verdict.{is_accepted, number_of, detail_of, refusal}
use Rattle.wider.proofs.Widening.{wider_facts}
use Rattle.tm.specs.Frame.{head_of, frame_of, time_of}
use Rattle.reports.specs.Source.{echo_of, failure}
use Rattle.terminal.specs.Outcome.{Input, verdict_on, outcome_of}
use Rattle.terminal.specs.Run.{Machine, Answer, input_for}
use Rattle.terminal.proofs.Storing.{store_length}
use Rattle.demands.specs.Terminal.{reference, leaves, run_of}
use Rattle.demands.specs.Refusing.{refusal_frame, Reported}
use Rattle.demands.specs.Widening.{Agree, Widens, SameReports}
use Rattle.demands.proofs.Rows.{same_verdict, no_earlier}
use Rattle.demands.proofs.Numbered.{same_number}
use Rattle.demands.proofs.Answers.{same_answer}
use Rattle.demands.proofs.Demand1.{table_in_order, terminal_refuses}

-- Both runs agree, and part no earlier than the demand has it. Ruled out: a terminal that refuses a profile with more areas.
pub terminal_widens : Widens reference
unfolding Agree answers outcome_of
terminal_widens wide narrow m [] h = refl
terminal_widens wide narrow m (s ∷ rest) h =
    let left : Machine = leaves reference narrow m s in
    let next : Agree (run_of reference narrow left rest) (run_of reference wide left rest) = terminal_widens wide narrow left rest (rw (store_length (input_for narrow m s)) h) in (
      (λ same.
          let e : reference (input_for wide m s) ≡ reference (input_for narrow m s) =
          same_answer wide narrow m s h (same_verdict wide narrow (length m.store) h m.state (length s.out) s.packet same) in
          let l : leaves reference wide m s ≡ left = ap (λ (a : Answer). record { state = a.outcome.state; store = a.store }) e in
          (e, subst (λ (n : Machine). Agree (run_of reference narrow left rest) (run_of reference wide n rest)) (sym l) next)),
      (λ _. no_earlier wide narrow m.state (length m.store) (length s.out) s.packet h (table_in_order (input_for narrow m s)) (table_in_order (input_for wide m s))),
    )

-- ---- where both refuse by the same number

-- All of a refusal by 19 but its detail.
front_of : Input → List ℕ
front_of i =
    head_of (record { pid = i.profile.pid; count = i.state.counts.reports; time = time_of i.time; kind = 1; subtype = 2 }) (length (echo_of i.packet) + 4)
    ++ (echo_of i.packet ++ octets16 19)

detail_last : (i : Input) (k : ℕ) → refusal_frame i (Err (refusal Outside k)) ≡ front_of i ++ octets16 k
unfolding frame_of front_of
detail_last i k =
    let e : List ℕ = echo_of i.packet in
    let h : ℕ → List ℕ = head_of (record { pid = i.profile.pid; count = i.state.counts.reports; time = time_of i.time; kind = 1; subtype = 2 }) in
    ap₂ (λ (n : ℕ) (x : List ℕ). h n ++ x) (length-append e (failure 19 k)) (sym (append_assoc e (octets16 19) (octets16 k)))
    ∙ sym (append_assoc (h (length e + 4)) (e ++ octets16 19) (octets16 k))

-- A refusal by 19, in parts.
record Nineteen (i : Input) (k : ℕ) : Type 0 where
  reported : Reported i (reference i)
  buffer : (reference i).out ≡ front_of i ++ octets16 k ++ drop 24 i.out
  place : length (front_of i) ≡ 22

nineteen : (i : Input) (k : ℕ) → verdict_on i ≡ Err (refusal Outside k) → Nineteen i k
unfolding outcome_of among
nineteen i k e =
    let r : Reported i (reference i) = terminal_refuses.reported i (ap is_accepted e) (rw e refl) in
    let frame : refusal_frame i (verdict_on i) ≡ front_of i ++ octets16 k = ap (refusal_frame i) e ∙ detail_last i k in
    record {
      reported = r;
      buffer = r.buffer ∙ ap (λ (f : List ℕ). f ++ drop 24 i.out) frame;
      place = omega (arith, r.long, ap length frame, length-append (front_of i) (octets16 k));
    }

-- Their reports agree, except that for 19 the wider's block number may be larger. Ruled out: a terminal whose wider profile names an earlier block.
pub terminal_same_reports : SameReports reference
unfolding outcome_of front_of
terminal_same_reports wide narrow m s h n w e =
    ⊎_elim
    (λ same. inl (same_answer wide narrow m s h same))
    (λ larger.
    let i : Input = input_for narrow m s in
    let j : Input = input_for wide m s in
    let k : ℕ = larger.0 in
    let l : ℕ = larger.1 in
    let a = nineteen i k larger.2 in
    let b = nineteen j l larger.3 in
    let front : front_of j ≡ front_of i = rw (wider_facts wide narrow (length m.store) h).pid in
    inr (record {
      front = front_of i;
      rest = drop 24 s.out;
      place = a.place;
      narrower = a.buffer ∙ ap (λ (v : Verdict). front_of i ++ octets16 (detail_of v) ++ drop 24 s.out) (sym larger.2);
      wider = b.buffer ∙ ap₂ (λ (f : List ℕ) (v : Verdict). f ++ octets16 (detail_of v) ++ drop 24 s.out) front (sym larger.3);
      larger = rw (larger.2, larger.3) larger.4;
      number_19 = ap number_of larger.2;
      written = b.reported.written ∙ sym a.reported.written;
      state = b.reported.state ∙ sym a.reported.state;
      store = b.reported.store ∙ sym a.reported.store;
    }))
    (same_number wide narrow m.state (length m.store) (length s.out) s.packet h n w e)
