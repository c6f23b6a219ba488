-- `commands::session::set_buffer` meets its contract: the octets laid are those that fill the output buffer.
use Rattle.std.proofs.Common.{◌≡◌, ◌∙◌, ap, length}
use Rattle.octets.specs.Copy.{laid}
use Rattle.commands.specs.Session.{with_room, filling}
use Rattle.commands.proofs.Sessions.{filled}
use Rattle.commands.proofs.session.set_buffer.Goals as goal

pub returns-clause-value : goal.returns-clause-value
returns-clause-value c =
    let e : c.front.result.now ≡ filling c.args.given.now = c.front.ensures ∙ filled c.args.given.now _ _ c.word16_at-length.ensures c.one-full.ensures in
    ap (with_room c.args.s) (c.put-room.ensures.0 ∙ ap length e)

pub returns-clause-out_after : goal.returns-clause-out_after
returns-clause-out_after c =
    let e : c.front.result.now ≡ filling c.args.given.now = c.front.ensures ∙ filled c.args.given.now _ _ c.word16_at-length.ensures c.one-full.ensures in
    c.put-room.ensures.1 ∙ ap (laid c.args.out.now 0) e
