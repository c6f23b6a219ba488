-- `telling::halt_words` meets its contract: of a reason of another program nothing is said.
use Rattle.std.proofs.Common.{inl, inr}
use Rattle.saying.proofs.Saying.{says_none}
use Rattle.telling.proofs.halt_words.Goals as goal

pub returns-in-Unit : goal.returns-in-Unit
returns-in-Unit c =
    let quiet = says_none c.kept.ensures in
    elim c.in-Unit.is [ inl h ↦ rw h.1 quiet | inr h ↦ elim h [ inl e ↦ rw e quiet | inr e ↦ rw e quiet ] ]
