-- `toldtext::put_checked` meets its contract: the memory, the count and the entries are said in a row, and there are as many entries as the count says.
use Rattle.std.proofs.Common.{ℕ, sym, ap}
use Rattle.octets.specs.Copy.{placed}
use Rattle.words.specs.Ascii.{ascii}
use Rattle.saying.proofs.Saying.{says_as, says_append}
use Rattle.contents.proofs.Numbers.{entries_length}
use Rattle.toldtext.specs.Told.{in_decimal}
use Rattle.toldtext.proofs.put_checked.Goals as goal

pub returns : goal.returns
returns c =
    let a = c.args in
    let count = sym (entries_length _ (placed a.c.entries a.frame.now)) in
    says_append c.put_decimal-first.ensures
    (says_append (says_as (ap (λ (k : ℕ). in_decimal (ascii " blocks ") k) count) c.put_decimal-second.ensures) (rw c.placed.ensures at c.put_entries.ensures))
