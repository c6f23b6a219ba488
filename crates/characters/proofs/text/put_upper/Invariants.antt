-- `characters::text::put_upper`: the digits so far are laid in upper case.
use Rattle.std.proofs.Common.{◌≡◌, take}
use Rattle.octets.specs.Copy.{laid}
use Rattle.characters.specs.Digits.{upper_text}
use Rattle.characters.proofs.text.put_upper.Given as goal

abbrev pub invariant-loop-i : goal.invariant-loop-i
invariant-loop-i l = l.text ≡ laid l.initial.text l.at (take l.i (upper_text l.digits))
