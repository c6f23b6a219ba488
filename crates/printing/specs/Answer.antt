-- docs/CASES.md, the table's last column: the text of what the terminal, the reader and the writer answer.
use Rattle.std.specs.Prelude.{List, [], ◌∷◌, ◌++◌, ℕ, ◌%◌, Option, Some, None, Ok, Err}
use Rattle.octets.specs.Numbers.{octets16}
use Rattle.characters.specs.Digits.{text_of}
use Rattle.lines.specs.Lines.{newline}
use Rattle.checks.specs.Verdict.{Verdict}
use Rattle.checks.specs.Verdict.{check_number, detail_of}
use Rattle.tc.specs.declared.Fields.{Fields}
use Rattle.writer.specs.Writer.{Written}
use Rattle.writer.specs.Writer.{error_number, written_length}
use Rattle.counts.specs.declared.Counts.{Counts}
use Rattle.saying.specs.Text.{spaced}

-- 0000, or 01 and the number of a refusal as one octet.
unfoldable pub code_text : Option ℕ → List ℕ
code_text None = text_of (0 ∷ 0 ∷ [])
code_text (Some number) = text_of (1 ∷ number % 256 ∷ [])

-- A number of two octets behind a space.
abbrev pub field : ℕ → List ℕ
field x = spaced (octets16 (x % 65536))

-- The number of a refusal, of a packet and of a write.
abbrev pub refused_number : Verdict → Option ℕ
refused_number (Ok _) = None
refused_number (Err r) = Some (check_number r.check)

abbrev pub unwritten_number : Written → Option ℕ
unwritten_number (Ok n) = None
unwritten_number (Err e) = Some (error_number e)

-- A verdict: its code and the detail.
unfoldable pub verdict_text : Verdict → List ℕ
verdict_text v = code_text (refused_number v) ++ spaced (octets16 (detail_of v))

-- The octets written, the count of category 1 and of category 9, and the end of the line.
unfoldable pub counts_text : ℕ → Counts → List ℕ
counts_text written c = field written ++ (spaced (octets16 c.reports) ++ (spaced (octets16 c.services) ++ newline ∷ []))

-- The checksum flag, ack, type, subtype and pad, an octet each.
unfoldable pub header_text : Fields → List ℕ
header_text f =
    spaced (f.checksum ∷ []) ++ (spaced (f.ack ∷ []) ++ (spaced (f.kind ∷ []) ++ (spaced (f.subtype ∷ []) ++ spaced (f.pad ∷ []))))

-- APID, count, and those.
unfoldable pub fields_text : Fields → List ℕ
fields_text f = spaced (octets16 f.apid) ++ (spaced (octets16 f.count) ++ header_text f)

-- The writer's answer and the packet's length, 0 where it refused.
unfoldable pub written_text : Written → List ℕ
written_text w = code_text (unwritten_number w) ++ field (written_length w)
