-- `characters::text::decode`: the octets so far are laid.
use Rattle.std.proofs.Common.{◌≡◌, take}
use Rattle.octets.specs.Copy.{laid}
use Rattle.characters.specs.Digits.{octets_in}
use Rattle.characters.proofs.text.decode.Given as goal

abbrev pub invariant-loop-i : goal.invariant-loop-i
invariant-loop-i l = l.octets ≡ laid l.initial.octets l.at (take l.i (octets_in l.text))
