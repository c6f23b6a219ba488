-- `terminal::answer` meets its contract: what each way lays and writes is what is due.
-- Assumes nothing.
use Rattle.std.specs.Prelude.{Ok, Err, IfOk}
use Rattle.std.proofs.Common.{rules, arith, ◌≡◌, [], ◌∷◌, true, false, refl, sym, ap, subst, ◌∙◌, length}
use Rattle.octets.specs.Copy.{placed}
use Rattle.checks.specs.Verdict.{Verdict}
use Rattle.checks.specs.Verdict.{is_accepted, silent}
use Rattle.tc.specs.Layout.{application_of}
use Rattle.serving.specs.declared.Work.{Work}
use Rattle.serving.specs.Decision.{Decision, verdict_of}
use Rattle.decide.specs.Table.{decision_of, accepting}
use Rattle.serving.specs.Services.{FormedFor}
use Rattle.decide.proofs.Checked.{decision_decided, decision_accepted}
use Rattle.laying.specs.Reports.{failed}
use Rattle.terminal.specs.Outcome.{Input, input, verdict_on}
use Rattle.terminal.specs.Act.{CarriesOut}
use Rattle.terminal.proofs.Steps.{did_none}
use Rattle.terminal.proofs.Reporting.{did_refusal}
use Rattle.terminal.proofs.Answering.{accepted-due, accepted_store, refused_store, silent-due, refused-due, heard_four, accepted-formed}
use Rattle.terminal.proofs.Promised.{answered}
use Rattle.terminal.proofs.answer.Goals as goal

-- The decision on an input.
abbrev deciding : Input → Decision
deciding i = decision_of i.profile i.state (length i.store) (length i.out) i.packet

-- Its verdict is the one on the input.
decides : (i : Input) (d : Decision) → d ≡ deciding i → verdict_of d ≡ verdict_on i
decides i d e = ap verdict_of e ∙ decision_decided i.profile i.state (length i.store) (length i.out) i.packet

-- The work of a packet that is accepted is the one found on the way.
works : (i : Input) (w : Work) → ◌≡◌ {A = Decision} (Ok w) (deciding i) → is_accepted (verdict_on i) ≡ true
    → ◌≡◌ {A = Decision} (Ok w) (Ok (accepting i.profile i.packet))
works i w e h = e ∙ decision_accepted i.profile i.state (length i.store) (length i.out) i.packet h

pub carry_out-end-requires : goal.carry_out-end-requires
unfolding application_of
carry_out-end-requires c =
    let i : Input = input c.args.profile c.args.state c.args.time c.args.packet.now c.args.store.now c.args.out.now in
    let e : ◌≡◌ {A = Decision} (Ok c.in-Ok.work) (deciding i) = sym c.in-Ok.is ∙ c.decide.ensures in
    let verdict : ◌≡◌ {A = Verdict} (Ok tt) (verdict_on i) = decides i (Ok c.in-Ok.work) e in
    let accepted = ap is_accepted (sym verdict) in (
      refl,
      (
        heard_four i (ap silent (sym verdict)),
        subst (λ (x : Decision). IfOk x (λ w. FormedFor w.task (placed w.«data» i.packet))) (sym (works i c.in-Ok.work e accepted)) (accepted-formed i accepted),
      ),
    )

pub returns-in-Ok : goal.returns-in-Ok
unfolding application_of
returns-in-Ok c =
    let i : Input = input c.args.profile c.args.state c.args.time c.args.packet.now c.args.store.now c.args.out.now in
    let six : length c.args.time ≡ 6 = search rules in
    let e : ◌≡◌ {A = Decision} (Ok c.in-Ok.work) (deciding i) = sym c.in-Ok.is ∙ c.decide.ensures in
    let verdict : ◌≡◌ {A = Verdict} (Ok tt) (verdict_on i) = decides i (Ok c.in-Ok.work) e in
    let accepted = ap is_accepted (sym verdict) in
    let carried =
    subst (λ (x : Decision). IfOk x (λ w. CarriesOut (record { pid = i.profile.pid; time = i.time }) w (record { at = 0; counts = i.state.counts }) c.carry_out-end.result i.packet i.out c.carry_out-end.new.out i.store c.carry_out-end.new.store))
    (works i c.in-Ok.work e accepted) c.carry_out-end.ensures in
    answered i _ _ _ _ _ _ _ six verdict (accepted-due i accepted) (carried.store_is ∙ accepted_store i accepted) carried.did c.outcome_of.ensures

pub returns-then-is_silent : goal.returns-then-is_silent
returns-then-is_silent c =
    let i : Input = input c.args.profile c.args.state c.args.time c.args.packet.now c.args.store.now c.args.out.now in
    let six : length c.args.time ≡ 6 = search rules in
    let verdict : ◌≡◌ {A = Verdict} (Err c.in-Err.refusal) (verdict_on i) = decides i _ (sym c.in-Err.is ∙ c.decide.ensures) in
    let quiet : silent (verdict_on i) ≡ true = ap silent (sym verdict) ∙ sym c.if-is_silent.ensures in
    let refused = ap is_accepted (sym verdict) in
    answered i 0 _ _ _ _ [] _ six verdict (silent-due i refused quiet) (refused_store i refused) (did_none _ _ _ _) refl

pub returns-else-is_silent : goal.returns-else-is_silent
returns-else-is_silent c =
    let i : Input = input c.args.profile c.args.state c.args.time c.args.packet.now c.args.store.now c.args.out.now in
    let six : length c.args.time ≡ 6 = search rules in
    let verdict : ◌≡◌ {A = Verdict} (Err c.in-Err.refusal) (verdict_on i) = decides i _ (sym c.in-Err.is ∙ c.decide.ensures) in
    let loud : silent (verdict_on i) ≡ false = ap silent (sym verdict) ∙ sym c.if-is_silent.ensures in
    let refused = ap is_accepted (sym verdict) in
    answered i _ _ _ _ _ _ _ six verdict
    (ap (λ (v : Verdict). failed v i.packet ∷ []) verdict ∙ refused-due i refused loud)
    (refused_store i refused) (did_refusal _ six _ _ _ _ (Err c.in-Err.refusal) i.packet (heard_four i loud) (omega arith) c.report_refusal-end.ensures) c.outcome_of-in-Err.ensures
