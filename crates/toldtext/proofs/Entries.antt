-- What is said of the blocks of a check: of none, and of a first one and those behind it.
-- Assumes nothing.
use mathlib.Core.Path.{◌≡◌, ap, ◌∙◌}
use mathlib.Core.List.{List, ◌++◌}
use Prim.Native.Nat.{ℕ, suc, ◌-◌, ◌+◌, ◌*◌, ◌<◌, ◌≤◌}
use native.Mathlib.Omega.{arith}
use lib.ListN.{length, drop}
use lib.Seq.{drop-drop}
use Rattle.saying.specs.Text.{Says}
use Rattle.saying.proofs.Saying.{says_as, says_none, says_append}
use Rattle.contents.specs.Source.{entry_size, entry_at, entries_in}
use Rattle.toldtext.specs.Told.{entry_text, entries_text}

-- Of no blocks nothing is said, and the place is kept.
pub says_no_entries : (n : ℕ) (s : List ℕ) {at : ℕ} {d : List ℕ} → n ≡ 0 → at ≤ length d + 1 → Says (entries_text (entries_in n s)) at d at d
unfolding entries_in entries_text
says_no_entries n s none_left fits = rw none_left (says_none (omega arith))

next : (n k : ℕ) (s : List ℕ) → k < n
    → entry_text (entry_at s k) ++ entries_text (entries_in (n - (k + 1)) (drop ((k + 1) * entry_size) s)) ≡ entries_text (entries_in (n - k) (drop (k * entry_size) s))
unfolding entries_in entries_text
next n k s more =
    let left : n - k ≡ suc (n - (k + 1)) = omega arith in
    let behind : drop entry_size (drop (k * entry_size) s) ≡ drop ((k + 1) * entry_size) s =
    drop-drop entry_size (k * entry_size) s ∙ ap (λ (n : ℕ). drop n s) (omega arith) in
    rw (left, behind)

-- What is said of those from one on: it, and those behind it.
pub says_more_entries : (n k : ℕ) (s : List ℕ) {at r₁ r₂ : ℕ} {d d₁ d₂ : List ℕ} → k < n
    → Says (entry_text (entry_at s k)) at d r₁ d₁ → Says (entries_text (entries_in (n - (k + 1)) (drop ((k + 1) * entry_size) s))) r₁ d₁ r₂ d₂
    → Says (entries_text (entries_in (n - k) (drop (k * entry_size) s))) at d r₂ d₂
says_more_entries n k s more first rest = says_as (next n k s more) (says_append first rest)
