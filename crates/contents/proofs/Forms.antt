-- The lengths of some entries, by their numbers.
-- Assumes nothing.
use Rattle.std.specs.List.{list_all, range_with_len}
use mathlib.Core.Path.{◌≡◌, refl, sym, ap, ◌∙◌}
use mathlib.Core.Bool.{Bool, ◌&&◌}
use mathlib.Core.List.{List}
use Prim.Native.Nat.{ℕ, zero, suc, ◌+◌, ◌*◌}
use native.Mathlib.Omega.{arith}
use lib.ListN.{drop}
use lib.Seq.{drop-drop}
use lib.Dec.{leb}
use Rattle.contents.specs.Source.{entry_size, entry_at, lengths_right_of}

-- The entries of so many numbers from one on are those that stand from its place on.
lengths_from : (n from : ℕ) (s : List ℕ)
    → list_all (λ (k : ℕ). leb 1 (entry_at s k).length) (range_with_len from n) ≡ lengths_right_of n (drop (from * entry_size) s)
unfolding lengths_right_of
lengths_from zero from s = refl
lengths_from (suc n) from s =
    let next : (from + 1) * entry_size ≡ from * entry_size + entry_size = omega arith in
    let behind : drop ((from + 1) * entry_size) s ≡ drop entry_size (drop (from * entry_size) s) =
    ap (λ (k : ℕ). drop k s) next ∙ sym (drop-drop entry_size (from * entry_size) s) in
    ap (λ (b : Bool). leb 1 (entry_at s from).length && b) (lengths_from n (from + 1) s ∙ ap (lengths_right_of n) behind)

pub lengths_all : (n : ℕ) (s : List ℕ) → list_all (λ (k : ℕ). leb 1 (entry_at s k).length) (range_with_len 0 n) ≡ lengths_right_of n s
lengths_all n s = lengths_from n 0 s
