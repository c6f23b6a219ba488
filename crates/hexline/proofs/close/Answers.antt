-- `hexline::close` meets its contract: the frames that stand at the front of the buffer and the closing line are said in a row.
use Rattle.std.proofs.Common.{ap, List, ℕ, ◌++◌}
use Rattle.tm.specs.Frame.{cut}
use Rattle.saying.proofs.Saying.{says_as, says_append}
use Rattle.packetline.specs.Packet.{lines_of, closing_of}
use Rattle.hexline.proofs.close.Goals as goal

pub returns : goal.returns
returns c =
    says_as (ap (λ (l : List ℕ). lines_of (cut l) ++ closing_of c.args.outcome.verdict) c.front-frames.ensures)
    (says_append c.put_frames-end.ensures c.put_verdict.ensures)
