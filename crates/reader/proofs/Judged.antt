-- The reader's verdict, check by check: each refusal where its check is the first that fails, and acceptance where none does.
-- Assumes nothing.
use Rattle.std.specs.Prelude.{Ok, Err}
use mathlib.Core.Path.{◌≡◌}
use mathlib.Core.Bool.{true, false}
use mathlib.Core.List.{List}
use Prim.Native.Nat.{ℕ, ◌-◌, min, ◌≤◌, ◌<◌}
use lib.ListN.{length}
use lib.Dec.{eqb}
use borrow.Author.Tests.{le-leb, lt-leb, eq-eqb, eqb-true}
use Rattle.octets.specs.Numbers.{word16}
use Rattle.checks.specs.declared.Check.TheVariants.{Short, Length, Control, Header}
use Rattle.checks.specs.Verdict.{refusal}
use Rattle.checks.specs.Table.{answer}
use Rattle.tc.specs.Layout.{right_control}
use Rattle.reader.specs.Reader.{least_octets, most_detail, judged, reader_rows, control_right}
use Rattle.heading.specs.Heading.{length_right, header_fault}

-- ---- what check 2 asks

pub control_right_lem : (p : List ℕ) → word16 p (length p - 2) ≡ right_control p → control_right p ≡ true
unfolding control_right
control_right_lem p e = eq-eqb _ _ e

pub control_is : (p : List ℕ) → control_right p ≡ true → word16 p (length p - 2) ≡ right_control p
unfolding control_right
control_is p t = eqb-true _ _ t

-- ---- the verdict

module _ (p : List ℕ) where
  pub judged-short : length p < least_octets → judged p ≡ Err (refusal Short 0)
  unfolding judged reader_rows answer
  judged-short h = simp (lt-leb _ _ h)

  pub judged-length : least_octets ≤ length p → length_right p ≡ false → judged p ≡ Err (refusal Length (min (length p) most_detail))
  unfolding judged reader_rows answer
  judged-length h l = simp (le-leb _ _ h, l)

  pub judged_control : least_octets ≤ length p → length_right p ≡ true → control_right p ≡ false → judged p ≡ Err (refusal Control (right_control p))
  unfolding judged reader_rows answer
  judged_control h l k = simp (le-leb _ _ h, l, k)

  pub judged-header : least_octets ≤ length p → length_right p ≡ true → control_right p ≡ true → eqb (header_fault p) 0 ≡ false → judged p ≡ Err (refusal Header (header_fault p))
  unfolding judged reader_rows answer
  judged-header h l k f = simp (le-leb _ _ h, l, k, f)

  pub judged-accepted : least_octets ≤ length p → length_right p ≡ true → control_right p ≡ true → eqb (header_fault p) 0 ≡ true → judged p ≡ Ok tt
  unfolding judged reader_rows answer
  judged-accepted h l k f = simp (le-leb _ _ h, l, k, f)
