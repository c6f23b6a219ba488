-- Laws of the place of the next word of a line: it lies ahead and inside, and the words of a line are that word and those behind it.
-- Assumes nothing.
use mathlib.Core.Path.{◌≡◌, refl, sym, ap, ap₂, ◌∙◌}
use mathlib.Core.Bool.{Bool, true, false, ◌||◌, false≢true}
use mathlib.Core.Logic.{⊎_elim}
use mathlib.Core.List.{List, [], ◌∷◌, ◌++◌, append_assoc, append-nil}
use Prim.Native.Nat.{ℕ, suc, ◌+◌, ◌-◌, ◌≤◌, ◌<◌}
use native.Mathlib.Omega.{arith}
use lib.ListN.{length, take, drop, length-append, length-drop}
use lib.Seq.{drop-drop}
use lib.Dec.{eqb}
use borrow.Author.Tests.{eqb-true, lt-ltb, le-ltb}
use Rattle.laws.proofs.Order.{by_order}
use Rattle.laws.proofs.Tests.{by-test, or_cases}
use Rattle.octets.specs.declared.copy.Span.{Span}
use Rattle.octets.specs.Copy.{between}
use Rattle.octets.proofs.Between.{between-eq, between-length, between_most}
use Rattle.words.specs.Words.{is_blank, hash, ended, words_from, words_of, blanks_in, plain_in, span_of, words_at}
use Rattle.words.proofs.Fronts.{blanks_most, plain_most, blanks_left}

-- ---- where the next word stands

-- Behind the blanks, and up to the end of the characters that follow them.
pub span_walked : (line : List ℕ) (at : ℕ) {from to : ℕ} → from ≡ at + blanks_in (drop at line) → to ≡ from + plain_in (drop from line)
    → ◌≡◌ {A = Span} (record { from = from; to = to }) (span_of line at)
unfolding span_of
span_walked line at begins ends =
    ap₂ (λ (f t : ℕ). record { from = f; to = t }) begins (ends ∙ ap (λ (f : ℕ). f + plain_in (drop f line)) begins)

module _ (line : List ℕ) (at : ℕ) where
  pub span_ahead : (at ≤ (span_of line at).from) × ((span_of line at).from ≤ (span_of line at).to)
  unfolding span_of
  span_ahead = (omega arith, omega arith)

  pub span_inside : at ≤ length line → (span_of line at).to ≤ length line
  unfolding span_of
  span_inside h =
      let from : ℕ = at + blanks_in (drop at line) in
      omega (arith, blanks_most (drop at line), length-drop at line, plain_most (drop from line), length-drop from line)

  -- Where there is a word, it lies inside the line, wherever it was looked for.
  pub word_inside : (span_of line at).from < (span_of line at).to → (span_of line at).to ≤ length line
  unfolding span_of
  word_inside h =
      let from : ℕ = at + blanks_in (drop at line) in
      omega (arith, plain_most (drop from line), length-drop from line)

  -- It has characters, and at most as many as the line.
  pub word_some : (span_of line at).from < (span_of line at).to → 1 ≤ length (between (span_of line at).from (span_of line at).to line)
  word_some h = omega (arith, between-length (span_of line at).from (span_of line at).to line span_ahead.1 (word_inside h))

  pub word_most : length (between (span_of line at).from (span_of line at).to line) ≤ length line
  unfolding span_of
  word_most =
      let from : ℕ = at + blanks_in (drop at line) in
      let to : ℕ = from + plain_in (drop from line) in
      omega (arith, between_most from to line, plain_most (drop from line), length-drop from line)

-- ---- the words of a text

ended_some : (word : List ℕ) → 1 ≤ length word → ended word ≡ word ∷ []
ended_some [] h = absurd (omega arith)
ended_some (c ∷ word) h = refl

blank_no_hash : (c : ℕ) → is_blank c ≡ true → eqb c hash ≡ false
blank_no_hash c b =
    by-test (eqb c hash)
    (λ t. absurd (false≢true (ap is_blank (sym (eqb-true c hash t)) ∙ b)))
    (λ e. e)

neither : (a b : Bool) → a || b ≡ false → (a ≡ false) × (b ≡ false)
neither true b h = absurd (false≢true (sym h))
neither false b h = (refl, h)

-- One character behind an open word.
module _ (word : List ℕ) (c : ℕ) (s : List ℕ) where
  words_hash : eqb c hash ≡ true → words_from word (c ∷ s) ≡ ended word
  unfolding words_from
  words_hash t = rw t refl

  words_blank : is_blank c ≡ true → words_from word (c ∷ s) ≡ ended word ++ words_of s
  unfolding words_from
  words_blank b = rw (blank_no_hash c b, b) refl

  words_plain : eqb c hash || is_blank c ≡ false → words_from word (c ∷ s) ≡ words_from (word ++ c ∷ []) s
  unfolding words_from
  words_plain e = let n : (eqb c hash ≡ false) × (is_blank c ≡ false) = neither (eqb c hash) (is_blank c) e in rw (n.0, n.1) refl

words_stop : (word : List ℕ) (c : ℕ) (s : List ℕ) → eqb c hash || is_blank c ≡ true → 1 ≤ length word → words_from word (c ∷ s) ≡ word ∷ words_of (c ∷ s)
words_stop word c s t h =
    ⊎_elim
    (λ x. words_hash word c s x ∙ ended_some word h ∙ ap (λ (r : List (List ℕ)). word ∷ r) (sym (words_hash [] c s x)))
    (λ b.
    words_blank word c s b
    ∙ ap (λ (r : List (List ℕ)). r ++ words_of s) (ended_some word h)
    ∙ ap (λ (r : List (List ℕ)). word ∷ r) (sym (words_blank [] c s b)))
    (or_cases (eqb c hash) (is_blank c) t)

-- Blanks at the front are no words.
words_blanks : (s : List ℕ) → words_of s ≡ words_of (drop (blanks_in s) s)
unfolding blanks_in
words_blanks [] = refl
words_blanks (c ∷ s) =
    by-test (is_blank c)
    (λ t. rw t (words_blank [] c s t ∙ words_blanks s))
    (λ e. rw e refl)

-- Where neither a blank nor a word stands at the front, no word follows.
words_none : (s : List ℕ) → blanks_in s ≡ 0 → plain_in s ≡ 0 → words_of s ≡ []
unfolding words_from blanks_in plain_in
words_none [] b p = refl
words_none (c ∷ s) b p =
    by-test (eqb c hash)
    (λ t. words_hash [] c s t)
    (λ e. by-test (is_blank c)
    (λ t. let none : suc (blanks_in s) ≡ 0 = rw t at b in absurd (omega arith))
    (λ n. let none : suc (plain_in s) ≡ 0 = rw (e, n) at p in absurd (omega arith)))

-- The characters of a word at the front go to the word that is open, and end it.
words_front : (word s : List ℕ) → 1 ≤ length word + plain_in s → words_from word s ≡ (word ++ take (plain_in s) s) ∷ words_of (drop (plain_in s) s)
unfolding plain_in words_from
words_front word [] h = rw (append-nil word) (ended_some word (omega arith))
words_front word (c ∷ s) h =
    by-test (eqb c hash || is_blank c)
    (λ t. rw (t, append-nil word) (words_stop word c s t (omega (arith, rw t at h))))
    (λ e.
    rw e
    (words_plain word c s e
    ∙ words_front (word ++ c ∷ []) s (omega (arith, length-append word (c ∷ [])))
    ∙ ap (λ (w : List ℕ). w ∷ words_of (drop (plain_in s) s)) (append_assoc word (c ∷ []) (take (plain_in s) s))))

pub words_next : (line : List ℕ) (at : ℕ) → words_of (drop at line) ≡ words_at line (span_of line at)
unfolding span_of
words_next line at =
    let blanks : ℕ = blanks_in (drop at line) in
    let from : ℕ = at + blanks in
    let count : ℕ = plain_in (drop from line) in
    let front : drop blanks (drop at line) ≡ drop from line = drop-drop blanks at line in
    let passed : words_of (drop at line) ≡ words_of (drop from line) = words_blanks (drop at line) ∙ ap words_of front in
    by_order 1 count
    (λ h.
    let size : from + count - from ≡ count = omega arith in
    let word : between from (from + count) line ≡ take count (drop from line) =
    between-eq from (from + count) line (omega arith) (omega (arith, plain_most (drop from line), length-drop from line))
    ∙ ap (λ (n : ℕ). take n (drop from line)) size in
    rw (lt-ltb from (from + count) (omega arith))
    (passed
    ∙ words_front [] (drop from line) (omega arith)
    ∙ ap₂ (λ (w : List ℕ) (r : List ℕ). w ∷ words_of r) (sym word) (drop-drop count from line)))
    (λ h.
    rw (le-ltb from (from + count) (omega arith))
    (passed ∙ words_none (drop from line) (ap blanks_in (sym front) ∙ blanks_left (drop at line)) (omega arith)))
