-- `spelling::is_spelled_apart` meets its contract: the part behind the time has two digits for each octet.
use Rattle.std.proofs.Common.{length, ap, arith, length-drop}
use Rattle.spelling.proofs.is_spelled_apart.Goals as goal

pub are_spelled-requires-then-all_digits : goal.are_spelled-requires-then-all_digits
are_spelled-requires-then-all_digits c =
    omega (arith, ap length c.behind.ensures, ap length c.behind-then-all_digits.ensures, length-drop 12 c.args.frame.now, length-drop 24 c.args.line.now)
