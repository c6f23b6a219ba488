-- `showing::answered` meets its contract: the terminal's answer over the fronts that are in use is its answer over the two buffers.
use Rattle.std.proofs.Common.{◌≡◌, min, length, rules}
use Rattle.showing.proofs.Answering.{answered_over}
use Rattle.showing.proofs.answered.Goals as goal

pub returns : goal.returns
returns c =
    let stored : c.min-stored.result ≡ min c.args.s.stored (length c.args.store.now) = search rules in
    let room : c.min-room.result ≡ min c.args.s.room (length c.args.out.now) = search rules in
    answered_over (record { session = c.args.s; store = c.args.store.now; out = c.args.out.now }) c.args.packet.now
    stored room c.answer.ensures
