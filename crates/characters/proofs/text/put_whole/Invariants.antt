-- `characters::text::put_whole`: the text of the octets from here on, laid where the next belongs, gives what all of them do.
use Rattle.std.proofs.Common.{◌≡◌, ◌+◌, ◌*◌, drop}
use Rattle.octets.specs.Copy.{laid}
use Rattle.characters.specs.Digits.{text_of}
use Rattle.characters.proofs.text.put_whole.Given as goal

abbrev pub invariant-loop-x : goal.invariant-loop-x
invariant-loop-x l = record {
  here : l.place ≡ l.at + 2 * l.x-index;
  whole : laid l.text l.place (text_of (drop l.x-index l.octets)) ≡ laid l.initial.text l.at (text_of l.octets);
}
