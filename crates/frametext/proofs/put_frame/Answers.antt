-- `frametext::put_frame` meets its contract: a frame that tells nothing has its number said, and of one that tells something the fields, that and the newline are said in a row.
use Rattle.saying.proofs.Saying.{says_as, says_append}
use Rattle.frametext.proofs.Frames.{frame_refused, frame_clean}
use Rattle.frametext.proofs.put_frame.Goals as goal

pub returns-in_default : goal.returns-in_default
returns-in_default c = says_as (frame_refused c.args.frame.now c.read-reading.ensures c.in_default.is) c.put_refused.ensures

pub returns : goal.returns
returns c =
    says_as (frame_clean c.args.frame.now c.read-reading.ensures c.in-Some.told c.in-Some.is)
    (says_append c.put_stamp-first.ensures (says_append c.put_told-second.ensures c.end.ensures))
