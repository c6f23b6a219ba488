-- `toldtext::put_entries` meets its contract: each entry is said before those behind it.
use Rattle.std.proofs.Common.{◌≡◌, ◌-◌, [], ap, arith}
use Rattle.saying.proofs.Saying.{says_as, says_none, says_append}
use Rattle.toldtext.specs.Told.{entry_text}
use Rattle.toldtext.proofs.Entries.{says_no_entries, says_more_entries}
use Rattle.toldtext.proofs.put_entries.Goals as goal

pub loop-number-init : goal.loop-number-init
loop-number-init c =
    let all : c.args.blocks - 0 ≡ c.args.blocks = omega arith in
    record { fits = omega arith; behind = λ r d said. says_append {s = []} (says_none c.kept-end.ensures) (rw all at said) }

pub loop-number-preserved : goal.loop-number-preserved
loop-number-preserved c = record {
  fits = omega arith;
  behind = λ r d said. c.loop-number.invariant.behind r d
      (says_more_entries c.args.blocks c.loop-number.number c.args.entries.now (omega arith)
      (says_as (ap entry_text c.entry_at.ensures) c.put_entry-end.ensures) said);
}

pub returns : goal.returns
returns c = c.loop-number.invariant.behind _ _ (says_no_entries _ _ (omega arith) c.loop-number.invariant.fits)
