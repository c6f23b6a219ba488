-- Document 01, "Refusal numbers in checking order": the reader's checks 42, 1, 2 and 16, and what it returns.
use Rattle.std.specs.Prelude.{◌≡◌, Bool, cond, List, [], ◌∷◌, ℕ, ◌-◌, min, length, leb, eqb}
use Rattle.octets.specs.Numbers.{word16}
use Rattle.checks.specs.Verdict.{Verdict}
use Rattle.checks.specs.declared.Check.TheVariants.{Short, Length, Control, Header as BadHeader}
use Rattle.checks.specs.declared.Refusal.{Refusal}
use Rattle.checks.specs.Table.{Row}
use Rattle.checks.specs.Verdict.{is_accepted, row, verdict_by}
use Rattle.octets.specs.Copy.{placed, nowhere}
use Rattle.tc.specs.declared.Fields.{Fields}
use Rattle.reader.specs.declared.Reading.{Reading}
use Rattle.tc.specs.Layout.{right_control, fields_of, data_span}
use Rattle.heading.specs.Heading.{length_right, header_fault}

-- The fewest octets that can be answered with a report.
abbrev pub least_octets : ℕ
least_octets = 6

-- The largest detail.
abbrev pub most_detail : ℕ
most_detail = 65535

-- The error control received, the last two octets, is the right value.
unfoldable pub control_right : List ℕ → Bool
control_right p = eqb (word16 p (length p - 2)) (right_control p)

-- The reader's rows of the table, in its order.
unfoldable pub reader_rows : List ℕ → List (Row Refusal)
reader_rows p =
    row Short 0 (leb least_octets (length p))
    ∷ row Length (min (length p) most_detail) (length_right p)
    ∷ row Control (right_control p) (control_right p)
    ∷ row BadHeader (header_fault p) (eqb (header_fault p) 0)
    ∷ []

-- The reader's verdict.
unfoldable pub judged : List ℕ → Verdict
judged p = verdict_by (reader_rows p)

-- The fields of a refused packet: all of them 0.
abbrev pub no_fields : Fields
no_fields = record { apid = 0; count = 0; checksum = 0; ack = 0; kind = 0; subtype = 0; pad = 0 }

-- What the reader returns.
unfoldable pub reading_of : List ℕ → Reading
reading_of p = record {
  verdict = judged p;
  fields = cond (is_accepted (judged p)) (fields_of p) no_fields;
  «data» = cond (is_accepted (judged p)) (data_span p) nowhere;
}

-- The application data that the reader hands back, a part of the packet: an empty one where it was refused.
abbrev pub data_read : List ℕ → List ℕ
data_read p = placed (reading_of p).«data» p

-- What a caller is promised: verdict, fields and the part that is the data, all by one equation.
abbrev pub Reads : List ℕ → Reading → Type 0
Reads p r = r ≡ reading_of p
