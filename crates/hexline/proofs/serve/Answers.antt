-- `hexline::serve` meets its contract: the terminal is given the packet that the line states.
use Rattle.std.proofs.Common.{◌≡◌, refl, subst, ◌∙◌, List, ℕ}
use Rattle.terminal.specs.Outcome.{Answered}
use Rattle.hexline.specs.Line.{Station, packet_input, packet_in}
use Rattle.hexline.proofs.Serving.{decoded}
use Rattle.hexline.proofs.serve.Goals as goal

pub returns : goal.returns
returns c =
    let a = c.args in
    let m : Station = record { machine = record { state = a.state; store = a.store.now }; out = a.out.now } in
    let e : c.front-octets.result.now ≡ packet_in a.line.now = c.front-octets.ensures ∙ decoded a.line.now _ _ refl c.decode.ensures in
    subst (λ (x : List ℕ). Answered (packet_input a.profile m x) c.answer.result c.answer.new.store c.answer.new.out) e c.answer.ensures
