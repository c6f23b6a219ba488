-- `sound::pairs_sound`: all pairs are sound where those from here on are, and an area meets all later ones where it meets those that are left.
use Rattle.std.proofs.Common.{true, ◌+◌, ◌≡◌, drop}
use Rattle.laws.specs.Each.{every}
use Rattle.map.specs.Sound.{every_pair, pair_sound}
use Rattle.sound.proofs.pairs_sound.Given as goal

abbrev pub invariant-loop-b : goal.invariant-loop-b
invariant-loop-b l = (l.sound ≡ true) × (every (pair_sound l.a) (drop (l.i + 1) l.areas) ≡ every (pair_sound l.a) (drop l.b-index l.b-items))

abbrev pub invariant-pairs : goal.invariant-pairs
invariant-pairs l = (l.sound ≡ true) × (every_pair l.areas ≡ every_pair (drop l.i l.areas))
