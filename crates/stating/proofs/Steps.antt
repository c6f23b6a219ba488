-- Laws of one step over the words of a line: where the next one stands, and what it adds to a number, to flags, and to octets.
-- Assumes nothing.
use mathlib.Core.Path.{◌≡◌, refl, sym, ap, ◌∙◌}
use mathlib.Core.List.{List, [], ◌∷◌, ◌++◌}
use Prim.Native.Nat.{ℕ, zero, suc, ◌+◌, ◌-◌, ◌/◌, ◌%◌, ◌≤◌, ◌<◌, min}
use native.Mathlib.Omega.{arith}
use lib.ListN.{length, drop, length-append}
use lib.Dec.{eqb}
use borrow.Author.Tests.{lt-ltb, le-ltb}
use Rattle.laws.specs.Fold.{joined}
use Rattle.laws.proofs.Order.{by_order}
use Rattle.octets.specs.declared.copy.Span.{Span}
use Rattle.octets.specs.Copy.{laid, placed}
use Rattle.octets.proofs.Between.{between_most}
use Rattle.octets.proofs.Laid.{laid_none, laid_past, laid-append}
use Rattle.characters.specs.Digits.{all_digits_of, octets_in}
use Rattle.characters.proofs.Texts.{octets_length}
use Rattle.words.specs.Words.{words_of, span_of}
use Rattle.words.proofs.Words.{span_ahead, word_inside, words_next}
use Rattle.std.specs.Prelude.{Result, Ok, Err}
use Rattle.laws.proofs.Tests.{by-test}
use Rattle.stating.specs.declared.fault.Fault.{Fault}
use Rattle.stating.specs.declared.fault.Fault.TheVariants.{PutDigits, PutOdd}
use Rattle.stating.specs.Stating.{digits_from, octets_stated}

-- ---- where the next word stands

module _ (line : List ℕ) (at : ℕ) (p : Span) (e : p ≡ span_of line at) where
  pub next_none : p.to ≤ p.from → words_of (drop at line) ≡ []
  next_none h = words_next line at ∙ rw (← e, le-ltb p.from p.to h) refl

  pub next_some : {word : List ℕ} → p.from < p.to → word ≡ placed p line → words_of (drop at line) ≡ word ∷ words_of (drop p.to line)
  next_some h w = words_next line at ∙ rw (← e, lt-ltb p.from p.to h, w) refl

  pub next_fewer : p.from < p.to → length (words_of (drop p.to line)) < length (words_of (drop at line))
  next_fewer h = rw (next_some {word = placed p line} h refl) (omega arith)

  -- It lies ahead and inside, and takes up its characters.
  pub next_inside : p.from < p.to → (at < p.to) × (p.to ≤ length line)
  next_inside h = rw e (omega (arith, span_ahead line at, rw e at h), word_inside line at (rw e at h))

  pub next_long : {word : List ℕ} → word ≡ placed p line → at + length word ≤ p.to
  next_long w = rw (w, e) (omega (arith, span_ahead line at, between_most (span_of line at).from (span_of line at).to line))

none_stated : {ws : List (List ℕ)} → ws ≡ [] → octets_stated ws ≡ []
unfolding joined
none_stated e = rw e refl

stated_next : {word : List ℕ} {rest ws : List (List ℕ)} → ws ≡ word ∷ rest → octets_in word ++ octets_stated rest ≡ octets_stated ws
unfolding joined
stated_next e = rw e refl

-- So many are those of the first word, and those of the others.
pub count_next : {word : List ℕ} {rest ws : List (List ℕ)} → ws ≡ word ∷ rest → length word / 2 + length (octets_stated rest) ≡ length (octets_stated ws)
count_next {word} {rest} e = omega (arith, octets_length word, length-append (octets_in word) (octets_stated rest), ap length (stated_next e))

-- Those counted behind so many are those stated.
digits_more : (n : ℕ) (ws : List (List ℕ)) {count : ℕ} → digits_from n ws ≡ Ok count → count ≡ n + length (octets_stated ws)
unfolding digits_from joined
digits_more n [] {count} e = let same : n ≡ count = cc in omega arith
digits_more n (w ∷ ws) {count} e =
    by-test (all_digits_of w)
    (λ t.
    by-test (eqb (length w % 2) 0)
    (λ v.
    let rest : digits_from (n + length w / 2) ws ≡ Ok count = rw (t, v) at e in
    omega (arith, digits_more (n + length w / 2) ws rest, octets_length w, length-append (octets_in w) (octets_stated ws)))
    (λ o. let odd : ◌≡◌ {A = Result ℕ Fault} (Err PutOdd) (Ok count) = rw (t, o) at e in absurd (cc)))
    (λ o. let none : ◌≡◌ {A = Result ℕ Fault} (Err PutDigits) (Ok count) = rw o at e in absurd (cc))

pub digits_octets : (ws : List (List ℕ)) {count : ℕ} → digits_from 0 ws ≡ Ok count → count ≡ length (octets_stated ws)
digits_octets ws e = digits_more 0 ws e ∙ omega arith

-- The octets of words take up no more than what is left of the line.
fit_from : (n : ℕ) (line : List ℕ) (at : ℕ) → length line ≤ at + n → length (octets_stated (words_of (drop at line))) ≤ length line - at
fit_from zero line at h =
    let p : Span = span_of line at in
    by_order p.to p.from
    (λ k. omega (arith, ap length (none_stated (next_none line at p refl k))))
    (λ k. omega (arith, next_inside line at p refl k))
fit_from (suc n) line at h =
    let p : Span = span_of line at in
    by_order p.to p.from
    (λ k. omega (arith, ap length (none_stated (next_none line at p refl k))))
    (λ k.
    let word : List ℕ = placed p line in
    let inside : (at < p.to) × (p.to ≤ length line) = next_inside line at p refl k in
    let long : at + length word ≤ p.to = next_long line at p refl {word = word} refl in
    omega (arith, count_next (next_some line at p refl {word = word} k refl), fit_from n line p.to (omega arith)))

pub octets_fit : (line : List ℕ) (at : ℕ) → length (octets_stated (words_of (drop at line))) ≤ length line
octets_fit line at = omega (arith, fit_from (length line) line at (omega arith))

pub lay_end : (d : List ℕ) (at : ℕ) {ws : List (List ℕ)} → ws ≡ [] → d ≡ laid d at (octets_stated ws)
lay_end d at e = rw (none_stated e) (sym (laid_none d at))

-- From a place past the end nothing is laid, so such a place may be any other.
capped : (d : List ℕ) (at most : ℕ) (s : List ℕ) → length d ≤ most → laid d (min at most) s ≡ laid d at s
capped d at most s room =
    by_order at most
    (λ h. let same : min at most ≡ at = omega arith in ap (λ (k : ℕ). laid d k s) same)
    (λ h. laid_past d (min at most) s (omega arith) ∙ sym (laid_past d at s (omega arith)))

pub lay_next : (d : List ℕ) (at most : ℕ) {word d' : List ℕ} {rest ws : List (List ℕ)} {put : ℕ}
    → ws ≡ word ∷ rest → d' ≡ laid d at (octets_in word) → length d' ≤ most → put ≡ min (at + length word / 2) most
    → laid d' put (octets_stated rest) ≡ laid d at (octets_stated ws)
lay_next d at most {word} {d'} {rest} e l room b =
    ap (λ (k : ℕ). laid d' k (octets_stated rest)) b
    ∙ capped d' (at + length word / 2) most (octets_stated rest) room
    ∙ ap (λ (k : ℕ). laid d' (at + k) (octets_stated rest)) (sym (octets_length word))
    ∙ ap (λ (r : List ℕ). laid r (at + length (octets_in word)) (octets_stated rest)) l
    ∙ laid-append d at (octets_in word) (octets_stated rest)
    ∙ ap (λ (s : List ℕ). laid d at s) (stated_next e)
