-- `fields::join_id` meets its contract: each field is its remainder at its place, and no two have a bit in common.
use Rattle.std.proofs.Common.{ℕ, ◌+◌, ◌*◌, ◌%◌, arith}
use lib.Bits.{and_mask}
use Rattle.fields.proofs.Masks.{joined, field}
use Rattle.fields.proofs.join_id.Goals as goal

pub returns : goal.returns
returns c =
    let f = c.args.f in
    let v : ℕ = f.version % 8 * 8192 in
    let k : ℕ = f.kind % 2 * 4096 in
    let h : ℕ = f.header % 2 * 2048 in
    joined 11 (v + k + h) (f.apid % 2048)
    (joined 12 (v + k) h
    (joined 13 v k (field f.version 3 13 (omega arith)) (field f.kind 1 12 (omega arith)) (omega arith) (omega arith))
    (field f.header 1 11 (omega arith)) (omega arith) (omega arith))
    (and_mask f.apid 11) (omega arith) (omega arith)
