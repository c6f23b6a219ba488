-- `toldtext::put_entries`: what is said of the blocks from here on, behind what is said, is all that is said.
use Rattle.std.proofs.Common.{ℕ, ◌+◌, ◌-◌, ◌*◌, ◌≤◌, List, length, drop}
use Rattle.saying.specs.Text.{Says}
use Rattle.contents.specs.Source.{entry_size, entries_in}
use Rattle.toldtext.specs.Told.{entries_text}
use Rattle.toldtext.proofs.put_entries.Given as goal

abbrev pub invariant-loop-number : goal.invariant-loop-number
invariant-loop-number l = record {
  fits : l.end ≤ length l.text + 1;
  behind :
      (r : ℕ) (d : List ℕ)
      → Says (entries_text (entries_in (l.blocks - l.number) (drop (l.number * entry_size) l.entries))) l.end l.text r d
      → Says (entries_text (entries_in l.blocks l.entries)) l.fn.at l.fn.text r d;
}
