-- `showing::write` meets its contract: the room is no more than the array, and the octets written into are as many as the room.
use Rattle.std.proofs.Common.{◌≡◌, ◌≤◌, ◌∙◌, length, arith}
use Rattle.showing.proofs.Writing.{take_replicate, taken_length, write_says}
use Rattle.showing.proofs.write.Goals as goal

pub returns : goal.returns
returns c =
    let most : c.from-room.result ≤ 65536 = omega arith in
    let long : length c.written_into-written.new.buffer ≡ c.from-room.result =
    c.written_into-written.auto.buffer ∙ taken_length c.from-room.result 65536 0xEE most in
    write_says c.args.given.now _ (c.from-room.ensures ∙ c.word16_at.ensures) (take_replicate c.from-room.result 65536 0xEE most) long
    c.written_into-written.ensures c.put_written-code.ensures c.last.ensures
