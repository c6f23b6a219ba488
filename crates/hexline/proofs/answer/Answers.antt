-- `hexline::answer` meets its contract: a line that is no packet line is answered 0200, and any other what the terminal answers its packet.
use Rattle.std.proofs.Common.{sym}
use Rattle.hexline.specs.Line.{Station, packet_in}
use Rattle.hexline.proofs.Serving.{packet_said, line_refused, line_served}
use Rattle.hexline.proofs.answer.Goals as goal

pub returns-then-not-is_packet : goal.returns-then-not-is_packet
returns-then-not-is_packet c =
    let a = c.args in
    line_refused a.profile (record { machine = record { state = a.state; store = a.store.now }; out = a.out.now }) a.line.now _ _ _ _
    (sym c.if-not-is_packet.ensures) c.put_closing-end.ensures

pub returns : goal.returns
returns c =
    let a = c.args in
    let m : Station = record { machine = record { state = a.state; store = a.store.now }; out = a.out.now } in
    line_served a.profile m a.line.now (sym c.if-not-is_packet.ensures) (packet_said a.profile m (packet_in a.line.now) c.serve-outcome.ensures c.close-end.ensures)
