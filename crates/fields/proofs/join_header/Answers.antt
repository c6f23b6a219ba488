-- `fields::join_header` meets its contract: each field is its remainder at its place, and no two have a bit in common.
use Rattle.std.proofs.Common.{ℕ, ◌+◌, ◌*◌, ◌%◌, arith}
use lib.Bits.{and_mask}
use Rattle.fields.proofs.Masks.{joined, field}
use Rattle.fields.proofs.join_header.Goals as goal

pub returns : goal.returns
returns c =
    let f = c.args.f in
    let v : ℕ = f.version % 8 * 32 in
    let k : ℕ = f.checksum % 2 * 16 in
    joined 4 (v + k) (f.ack % 16)
    (joined 5 v k (field f.version 3 5 (omega arith)) (field f.checksum 1 4 (omega arith)) (omega arith) (omega arith))
    (and_mask f.ack 4) (omega arith) (omega arith)
