-- Laws of a table in text: its rows by number, and a table that is made of rows.
-- Assumes nothing.
use mathlib.Core.Path.{◌≡◌, refl, ap, ◌∙◌}
use mathlib.Core.Bool.{Bool, true, ◌&&◌}
use mathlib.Core.List.{List, [], ◌∷◌, ◌++◌}
use Prim.Native.Nat.{ℕ, zero, suc, ◌+◌, ◌≤◌, ◌<◌}
use native.Mathlib.Omega.{arith}
use lib.ListN.{length, take, drop}
use lib.Seq.{take_at, drop-append-add}
use lib.Dec.{eqb}
use borrow.Author.Tests.{eqb-true}
use Rattle.std.specs.Prelude.{Option, None, Some}
use Rattle.std.specs.Option.{unwrap_or, option_map}
use Rattle.std.specs.Borrow.{Bor}
use Rattle.std.specs.List.{slice_get, slice_split, onto_first}
use Rattle.laws.proofs.Tests.{by-test, both}
use Rattle.lines.specs.Lines.{newline}
use Rattle.telling.specs.Rows.{row_length, row_of}

-- ---- rows by number, as the parts between newlines

abbrev pub is_newline : ℕ → Bool
is_newline c = eqb c newline

-- The part at a number, and nothing past the last one.
abbrev part_of : ℕ → List (List ℕ) → List ℕ
part_of n parts = unwrap_or (slice_get parts n) []

onto_head : (c : ℕ) (p : List ℕ) (parts : List (List ℕ)) → slice_get parts 0 ≡ Some p → slice_get (onto_first c parts) 0 ≡ Some (c ∷ p)
onto_head c p [] e = cc
onto_head c p (q ∷ parts) e = cc

onto_behind : (c n : ℕ) (parts : List (List ℕ)) → slice_get (onto_first c parts) (suc n) ≡ slice_get parts (suc n)
onto_behind c n [] = refl
onto_behind c n (q ∷ parts) = refl

part_first : (s : List ℕ) → slice_get (slice_split is_newline s) 0 ≡ Some (take (row_length s) s)
unfolding row_length
part_first [] = refl
part_first (c ∷ s) =
    by-test (eqb c newline) (λ e. rw e refl) (λ e. rw e (onto_head c (take (row_length s) s) (slice_split is_newline s) (part_first s)))

part_next : (n : ℕ) (s : List ℕ) → part_of (suc n) (slice_split is_newline s) ≡ part_of n (slice_split is_newline (drop (row_length s + 1) s))
unfolding row_length
part_next zero [] = refl
part_next (suc n) [] = refl
part_next n (c ∷ s) =
    by-test (eqb c newline)
    (λ e. rw e refl)
    (λ e.
    let more : suc (row_length s) + 1 ≡ suc (row_length s + 1) = omega arith in
    rw (e, more) (ap (λ (r : Option (List ℕ)). unwrap_or r []) (onto_behind c n (slice_split is_newline s)) ∙ part_next n s))

row_part : (n : ℕ) (s : List ℕ) → part_of n (slice_split is_newline s) ≡ row_of n s
unfolding row_of
row_part zero s = ap (λ (r : Option (List ℕ)). unwrap_or r []) (part_first s)
row_part (suc n) s = part_next n s ∙ row_part n (drop (row_length s + 1) s)

pub row_found : (n : ℕ) (s : List ℕ) (r : Option (Bor (List ℕ))) (d : Bor (List ℕ)) → d.now ≡ []
    → option_map (λ (x : Bor (List ℕ)). x.now) r ≡ slice_get (slice_split is_newline s) n → (unwrap_or r d).now ≡ row_of n s
row_found n s None d e f = e ∙ ap (λ (r : Option (List ℕ)). unwrap_or r []) f ∙ row_part n s
row_found n s (Some x) d e f = ap (λ (r : Option (List ℕ)). unwrap_or r []) f ∙ row_part n s

pub row-none : (n : ℕ) → row_of n [] ≡ []
unfolding row_of row_length
row-none zero = refl
row-none (suc n) = row-none n

-- ---- a table that is made of rows

-- So many rows from a number on.
abbrev pub rows_from : (ℕ → List ℕ) → ℕ → ℕ → List ℕ
rows_from row zero k = []
rows_from row (suc n) k = row k ++ newline ∷ rows_from row n (suc k)

-- Whether no newline stands in any of them.
abbrev pub plain_rows : (ℕ → List ℕ) → ℕ → ℕ → Bool
plain_rows row zero k = true
plain_rows row (suc n) k = eqb (row_length (row k)) (length (row k)) && plain_rows row n (suc k)

-- A row that has no newline ends at the one behind it.
row_ends : (w t : List ℕ) → row_length w ≡ length w → row_length (w ++ newline ∷ t) ≡ length w
unfolding row_length
row_ends [] t e = refl
row_ends (c ∷ w) t e =
    by-test (eqb c newline)
    (λ b. let none : 0 ≡ suc (length w) = rw b at e in absurd (omega arith))
    (λ b. let same : suc (row_length w) ≡ suc (length w) = rw b at e in rw b (ap suc (row_ends w t (omega arith))))

module _ (row : ℕ → List ℕ) (n k : ℕ) (plain : plain_rows row (suc n) k ≡ true) where
  ends : row_length (rows_from row (suc n) k) ≡ length (row k)
  ends = row_ends (row k) (rows_from row n (suc k)) (eqb-true (row_length (row k)) (length (row k)) (both (eqb (row_length (row k)) (length (row k))) (plain_rows row n (suc k)) plain).0)

  made_first : row_of 0 (rows_from row (suc n) k) ≡ row k
  unfolding row_of
  made_first = rw ends (take_at (row k) (newline ∷ rows_from row n (suc k)) (length (row k)) refl)

  made_next : (f : ℕ) → row_of (suc f) (rows_from row (suc n) k) ≡ row_of f (rows_from row n (suc k))
  unfolding row_of
  made_next f = rw (ends, drop-append-add (row k) (newline ∷ rows_from row n (suc k)) 1) refl

module _ (row : ℕ → List ℕ) where
  -- The rows of such a table are those that it is made of, and past them there is none.
  pub row_made : (n k f : ℕ) → plain_rows row n k ≡ true → f < n → row_of f (rows_from row n k) ≡ row (k + f)
  row_made zero k f plain h = absurd (omega arith)
  row_made (suc n) k zero plain h = made_first row n k plain ∙ ap row (omega arith)
  row_made (suc n) k (suc f) plain h =
      made_next row n k plain f ∙ row_made n (suc k) f (both (eqb (row_length (row k)) (length (row k))) (plain_rows row n (suc k)) plain).1 (omega arith) ∙ ap row (omega arith)

  pub row_past : (n k f : ℕ) → plain_rows row n k ≡ true → n ≤ f → row_of f (rows_from row n k) ≡ []
  row_past zero k f plain h = row-none f
  row_past (suc n) k zero plain h = absurd (omega arith)
  row_past (suc n) k (suc f) plain h = made_next row n k plain f ∙ row_past n (suc k) f (both (eqb (row_length (row k)) (length (row k))) (plain_rows row n (suc k)) plain).1 (omega arith)
