-- `judgestep::judge_end` meets its contract: the last verdict is said behind the answer to the empty line.
use Rattle.desk.specs.Place.{place_of}
use Rattle.judgestep.proofs.Judging.{did_end}
use Rattle.judgestep.proofs.judge_end.Goals as goal

pub returns : goal.returns
returns c =
    did_end (place_of c.args.d c.args.store c.args.out) c.ended-last.result c.conclude.result c.ended-last.ensures c.conclude.ensures.says_by c.conclude.ensures.desk_value
