-- What the terminal leaves of buffers of which it is lent the front, and what is said of an answer.
-- Assumes nothing.
use mathlib.Core.Path.{◌≡◌, sym, ap, ap₂, ◌∙◌}
use mathlib.Core.List.{List, ◌++◌}
use Prim.Native.Nat.{ℕ, min, ◌≤◌}
use native.Mathlib.Nat.{zero-add}
use native.Mathlib.Omega.{arith}
use lib.ListN.{length, take, drop, length-take}
use lib.Seq.{take_all, take-append-le}
use Rattle.laws.proofs.Order.{by_order}
use Rattle.octets.specs.Copy.{laid}
use Rattle.octets.proofs.Laid.{laid-eq}
use Rattle.terminal.specs.declared.Outcome.{Outcome}
use Rattle.terminal.specs.Outcome.{Input, input, octets_due, out_after, store_on, Answered}
use Rattle.terminal.proofs.Due.{due_fits, out_length, front_due, verdict_due, written_due}
use Rattle.terminal.proofs.Storing.{store_length}
use Rattle.commands.specs.declared.session.Session.{Session}
use Rattle.commands.specs.Session.{with_state}
use Rattle.saying.specs.Text.{line_of, Says}
use Rattle.printing.specs.Answer.{verdict_text, counts_text}
use Rattle.saying.proofs.Saying.{says_append}
use Rattle.showing.specs.Shows.{Bench, input_at, answer_text, bench_after, answering, AnsweredOver, Serves}

-- The front of a buffer is the same where its length is cut to the buffer's first.
front_least : (a n : ℕ) (l : List ℕ) → n ≡ min a (length l) → take n l ≡ take a l
front_least a n l e =
    by_order a (length l)
    (λ h. let same : n ≡ a = omega arith in ap (λ (k : ℕ). take k l) same)
    (λ h. take_all n l (omega arith) ∙ sym (take_all a l (omega arith)))

-- Octets laid at the front of a buffer that has room stand before the rest of it.
laid_rest : (l s : List ℕ) → length s ≤ length l → laid l 0 s ≡ s ++ drop (length s) l
laid_rest l s h = laid-eq l 0 s (omega arith) ∙ ap (λ (k : ℕ). s ++ drop k l) (zero-add (length s))

-- A front that became another of its length, and the rest behind it, is the other laid over the whole.
front_laid : (a n : ℕ) (l s s' : List ℕ) → n ≡ min a (length l) → length s' ≡ length (take a l) → s ≡ s' → s ++ drop n l ≡ laid l 0 s'
front_laid a n l s s' e same f =
    let size : n ≡ length s' = omega (arith, length-take a l) in
    ap₂ (λ (t : List ℕ) (k : ℕ). t ++ drop k l) f size ∙ sym (laid_rest l s' (omega (arith, length-take a l)))

-- The terminal's answer over the fronts of the store and the output buffer that are in use is its answer over the two.
pub answered_over : (b : Bench) (packet : List ℕ) {m n : ℕ} {r : Outcome} {store out : List ℕ}
    → m ≡ min b.session.stored (length b.store) → n ≡ min b.session.room (length b.out)
    → Answered (input b.session.profile b.session.state b.session.time packet (take m b.store) (take n b.out)) r store out
    → AnsweredOver (input_at b packet) b.store b.out r (store ++ drop m b.store) (out ++ drop n b.out)
answered_over b packet {m = m} {n = n} {r = r} {store = store} {out = out} e f a =
    let i : Input = input_at b packet in
    let h : Answered i r store out = rw (front_least b.session.stored m b.store e, front_least b.session.room n b.out f) at a in
    record {
      outcome_is = h.outcome_is;
      store_is = front_laid b.session.stored m b.store store (store_on i) e (store_length i) h.store_is;
      out_is = front_laid b.session.room n b.out out (out_after i) f (out_length i) h.out_is;
    }

-- The octets due stand at the front of a buffer whose front the terminal was lent.
due_front : (i : Input) (out : List ℕ) → length i.out ≤ length out
    → take (length (octets_due i)) (laid out 0 (out_after i)) ≡ octets_due i
due_front i out h =
    let due : List ℕ = octets_due i in
    let front : List ℕ = out_after i in
    let kept : length front ≡ length i.out = out_length i in
    ap (λ (l : List ℕ). take (length due) l) (laid_rest out front (omega arith))
    ∙ take-append-le (length due) front (drop (length front) out) (omega (arith, due_fits i))
    ∙ front_due i

-- The line of the octets written, the verdict and the counts, said one behind another, are what is said of an answer.
pub answer_said : (b : Bench) (packet : List ℕ) {r : Outcome} {store out written : List ℕ} {s : Session} {at frames verdict last : ℕ} {t₀ t₁ t₂ t₃ : List ℕ}
    → AnsweredOver (input_at b packet) b.store b.out r store out → written ≡ take r.written out
    → Says (line_of written) at t₀ frames t₁ → Says (verdict_text r.verdict) frames t₁ verdict t₂ → Says (counts_text r.written r.state.counts) verdict t₂ last t₃
    → s ≡ with_state b.session r.state
    → Serves (answering b packet) at t₀ (record { session = s; at = last }) store out t₃
unfolding answer_text bench_after
answer_said b packet {written = written} a w p q z e =
    let i : Input = input_at b packet in
    let due : written ≡ octets_due i =
    w
    ∙ ap₂ (λ (n : ℕ) (o : List ℕ). take n o) (ap (λ (o : Outcome). o.written) a.outcome_is ∙ written_due i) a.out_is
    ∙ due_front i b.out (omega (arith, length-take b.session.room b.out)) in
    record {
      says = says_append (rw due at p) (says_append (rw (a.outcome_is, verdict_due i) at q) (rw (a.outcome_is, written_due i) at z));
      session_is = e ∙ ap (λ (o : Outcome). with_state b.session o.state) a.outcome_is;
      store_is = a.store_is;
      out_is = a.out_is;
    }
