-- The loop of `iso::sums_of`: the sums are those of the octets before the index.
use Rattle.std.proofs.Common.{◌≡◌, ◌≤◌, take}
use Rattle.iso.specs.Checksum.{sums_of}
use Rattle.iso.proofs.sums_of.Given as goal

abbrev pub invariant-loop-octet : goal.invariant-loop-octet
invariant-loop-octet l =
    (record { c0 = l.c0; c1 = l.c1 } ≡ sums_of (take l.octet-index l.octets)) × (l.c0 ≤ 255) × (l.c1 ≤ 255)
