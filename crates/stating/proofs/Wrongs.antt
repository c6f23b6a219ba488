-- What is stated or wrong, and what is told, are all that an outcome says.
-- Assumes nothing.
use Rattle.std.proofs.Common.{◌≡◌, ap, ◌∙◌, Result, Ok, Err}
use Rattle.stating.specs.declared.fault.Fault.{Fault}
use Rattle.stating.specs.declared.fault.Wrong.{Wrong}
use Rattle.stating.specs.Wrongs.{wrong, plain, told_by}

pub both_say_all : {A : Type 0} (r q : Result A (Wrong A)) → plain r ≡ plain q → told_by r ≡ told_by q → r ≡ q
both_say_all (Ok x) (Ok y) p t = ap Ok t
both_say_all (Ok x) (Err v) p t = absurd (cc)
both_say_all (Err w) (Ok y) p t = absurd (cc)
both_say_all {A} (Err w) (Err v) p t =
    let same : w.fault ≡ v.fault = cc in
    ap (λ (f : Fault). Err (wrong f w.told)) same ∙ ap (λ (x : A). Err (wrong v.fault x)) t
