-- docs/CASES.md, `F`: what a frame says, in octets.
use Rattle.std.specs.Prelude.{cond, List, [], ◌∷◌, ◌++◌, ℕ}
use Rattle.octets.specs.Numbers.{octets16}
use Rattle.octets.specs.Copy.{placed}
use Rattle.fields.specs.Fields.{apid_of}
use Rattle.characters.specs.Digits.{text_of}
use Rattle.saying.specs.Text.{space, spaced, line_of}
use Rattle.counts.specs.Counts.{category_of}
use Rattle.tmreader.specs.Reader.{Verdict}
use Rattle.tmreader.specs.declared.Reading.{Reading}
use Rattle.tmreader.specs.Reader.{is_clean, number_of, reading_of}

-- 0000, or 01 and the number.
abbrev pub code_of : Verdict → List ℕ
code_of v = cond (is_clean v) 0 1 ∷ number_of v ∷ []

-- The APID, and 0 of a refused frame.
abbrev pub apid_in : Reading → ℕ
apid_in r = cond (is_clean r.verdict) (apid_of r.stamp.pid (category_of r.stamp.kind)) 0

-- APID, count, time, type and subtype.
unfoldable pub fields_text : Reading → List ℕ
fields_text r =
    spaced (octets16 (apid_in r))
    ++ (spaced (octets16 r.stamp.count)
    ++ (spaced r.stamp.time
    ++ (spaced (r.stamp.kind ∷ [])
    ++ spaced (r.stamp.subtype ∷ []))))

-- The verdict, the fields and the source data.
unfoldable pub read_text : List ℕ → List ℕ
read_text f = text_of (code_of (reading_of f).verdict) ++ (fields_text (reading_of f) ++ space ∷ line_of (placed (reading_of f).source f))
