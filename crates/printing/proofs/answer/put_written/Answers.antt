-- `printing::answer::put_written` meets its contract: a code and a length behind it.
use Rattle.std.proofs.Common.{◌≡◌, rules}
use Rattle.saying.proofs.Saying.{says_append}
use Rattle.printing.specs.Answer.{unwritten_number, written_text}
use Rattle.writer.specs.Writer.{written_length}
use Rattle.printing.proofs.answer.put_written.Goals as goal

pub returns : goal.returns
unfolding written_text
returns c =
    let refused : c.map.result ≡ unwritten_number c.args.written = search rules in
    let length : c.unwrap_or.result ≡ written_length c.args.written = search rules in
    rw (refused, length) at (says_append c.put_code-first.ensures c.number.ensures)
