-- `opening::put_halt` meets its contract: of what stops no reader of a unit file nothing is said.
use Rattle.std.proofs.Common.{inl, inr}
use Rattle.saying.proofs.Saying.{says_none}
use Rattle.opening.proofs.put_halt.Goals as goal

pub returns-in-Long : goal.returns-in-Long
returns-in-Long c =
    let quiet = says_none c.kept.ensures in
    elim c.in-Long.is [ inl e ↦ rw e quiet | inr h ↦ elim h [ inl e ↦ rw e.2 quiet | inr k ↦ elim k [ inl e ↦ rw e quiet | inr l ↦ elim l [ inl e ↦ rw e quiet | inr e ↦ rw e quiet ] ] ] ]
