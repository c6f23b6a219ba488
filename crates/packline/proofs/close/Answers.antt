-- `packline::close` meets its contract: the frames one a line, and the empty line behind them.
use Rattle.std.proofs.Common.{ℕ, List, [], ◌∷◌, ◌++◌, ap}
use Rattle.tm.specs.Frame.{cut}
use Rattle.lines.specs.Lines.{newline}
use Rattle.packetline.specs.Packet.{lines_of}
use Rattle.saying.proofs.Saying.{says_as, says_append}
use Rattle.packline.proofs.close.Goals as goal

pub returns : goal.returns
returns c =
    says_as (ap (λ (l : List ℕ). lines_of (cut l) ++ newline ∷ []) c.front-frames.ensures) (says_append c.put_frames-end.ensures c.end.ensures)
