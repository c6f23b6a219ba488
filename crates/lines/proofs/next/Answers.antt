-- `lines::next` meets its contract: the search finds the newline that ends the piece, or none among the characters that may.
use Rattle.std.proofs.Common.{arith}
use Rattle.lines.proofs.Cuts.{whole_newline, whole_on, whole_none}
use Rattle.lines.proofs.next.Goals as goal

pub returns-in-Some : goal.returns-in-Some
returns-in-Some c = whole_newline c.args.bound 18446744073709551615 c.behind-rest.ensures c.saturating_add.ensures c.front-window.ensures c.newline_in.ensures (omega arith) c.in-Some.is

pub returns-in-None : goal.returns-in-None
returns-in-None c =
    whole_on c.args.bound 18446744073709551615 c.behind-rest.ensures c.saturating_add.ensures c.front-window.ensures c.newline_in.ensures (omega arith) c.in-None.is c.if-bound-rest.true

pub returns-in-None-2 : goal.returns-in-None-2
returns-in-None-2 c =
    whole_none c.args.bound 18446744073709551615 c.behind-rest.ensures c.saturating_add.ensures c.front-window.ensures c.newline_in.ensures (omega arith) c.in-None.is c.if-bound-rest.false
