-- The verdict on a frame: clean where no check fails, and what a clean one tells.
-- Assumes nothing.
use Rattle.std.specs.Prelude.{Ok, Err}
use mathlib.Core.Path.{◌≡◌, refl}
use mathlib.Core.Bool.{true}
use mathlib.Core.List.{List}
use Prim.Native.Nat.{ℕ}
use Rattle.checks.specs.Table.{AllHold, answer}
use Rattle.checks.proofs.Table.{accepted-all}
use Rattle.tmreader.specs.Reader.{is_clean, size_right, head_right, kind_right, source_right, frame_rows, judged}

module _ (f : List ℕ) where
  pub judged_clean : size_right f ≡ true → head_right f ≡ true → kind_right f ≡ true → source_right f ≡ true → judged f ≡ Ok tt
  unfolding judged frame_rows answer
  judged_clean s h k o = simp (s, h, k, o)

-- Of a frame that reads cleanly every check holds.
pub clean_holds : (f : List ℕ) → is_clean (judged f) ≡ true → AllHold (frame_rows f)
unfolding judged
clean_holds f h = accepted-all (Ok tt) Err is_clean (λ flaw. refl) (frame_rows f) h

-- The last of them: its source data is right.
pub clean_source : (f : List ℕ) → is_clean (judged f) ≡ true → source_right f ≡ true
unfolding frame_rows AllHold
clean_source f h = (clean_holds f h).1.1.1.0
