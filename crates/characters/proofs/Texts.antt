-- Laws of the text of octets, and of the octets of a text.
-- Assumes nothing.
use mathlib.Core.Path.{◌≡◌, refl, sym, ap, ◌∙◌}
use mathlib.Core.List.{List, [], ◌∷◌, ◌++◌}
use Prim.Native.Nat.{ℕ, zero, suc, ◌+◌, ◌*◌, ◌/◌, ◌≤◌, ◌<◌}
use native.Mathlib.Omega.{arith}
use lib.ListN.{length, get_or, set, take, drop, length-set, length-take, take-append-drop, drop_of_length-le}
use Rattle.std.proofs.lemmas.List.{get_or-take}
use Rattle.std.specs.Simd.{first_chunks}
use Rattle.laws.proofs.Lists.{drop_next}
use Rattle.octets.specs.Copy.{laid}
use Rattle.octets.proofs.Laid.{laid-append, laid_past, laid_next, laid_front}
use Rattle.characters.specs.Digits.{digit_of, text_of, octet_of, octets_in}
use Rattle.characters.proofs.Digits.{text_length}

-- ---- the text of octets

-- The digits of one octet laid, and behind them the text of those that follow.
pub laid_text_next : (d : List ℕ) (at : ℕ) (s : List ℕ) (i : ℕ) → i < length s
    → laid (set (set d at (digit_of (get_or s i 0 / 16))) (at + 1) (digit_of (get_or s i 0))) (at + 2) (text_of (drop (i + 1) s))
    ≡ laid d at (text_of (drop i s))
unfolding laid text_of
laid_text_next d at s i h =
    let x : ℕ = get_or s i 0 in
    ap (λ (n : ℕ). laid (set (set d at (digit_of (x / 16))) (at + 1) (digit_of x)) n (text_of (drop (i + 1) s))) (omega arith)
    ∙ ap (λ (r : List ℕ). laid d at (text_of r)) (sym (drop_next s i h))

-- At the end no text is left.
pub laid_text_end : (d : List ℕ) (at : ℕ) (s : List ℕ) (i : ℕ) → length s ≤ i → laid d at (text_of (drop i s)) ≡ d
unfolding laid text_of
laid_text_end d at s i h = ap (λ (r : List ℕ). laid d at (text_of r)) (drop_of_length-le s h)

-- Where less than two characters have room, one octet fills the text.
pub laid_text_full : (d : List ℕ) (at : ℕ) (s : List ℕ) (i : ℕ) → i < length s → length d ≤ at + 1
    → set (set d at (digit_of (get_or s i 0 / 16))) (at + 1) (digit_of (get_or s i 0)) ≡ laid d at (text_of (drop i s))
laid_text_full d at s i h full =
    let x : ℕ = get_or s i 0 in
    let one : List ℕ = set d at (digit_of (x / 16)) in
    sym (laid_past (set one (at + 1) (digit_of x)) (at + 2) (text_of (drop (i + 1) s)) (omega (arith, length-set one (at + 1) (digit_of x), length-set d at (digit_of (x / 16)))))
    ∙ laid_text_next d at s i h

-- Where less than two characters have room, the first digit of an octet is all that is laid.
pub laid_text_edge : (d : List ℕ) (at : ℕ) (s : List ℕ) (i : ℕ) → i < length s → length d ≤ at + 1
    → set d at (digit_of (get_or s i 0 / 16)) ≡ laid d at (text_of (drop i s))
unfolding laid text_of
laid_text_edge d at s i h full =
    let x : ℕ = get_or s i 0 in
    sym (ap (λ (r : List ℕ). laid d at (text_of r)) (drop_next s i h)
    ∙ laid_past (set d at (digit_of (x / 16))) (at + 1) (digit_of x ∷ text_of (drop (i + 1) s)) (omega (arith, length-set d at (digit_of (x / 16)))))

-- The text of some octets, and of those behind them.
pub text_append : (s t : List ℕ) → text_of (s ++ t) ≡ text_of s ++ text_of t
unfolding text_of
text_append [] t = refl
text_append (x ∷ s) t = ap (λ (r : List ℕ). digit_of (x / 16) ∷ digit_of x ∷ r) (text_append s t)

-- The text of the first octets laid, and behind it that of the others.
pub laid_text_split : (d : List ℕ) (at n : ℕ) (s : List ℕ) → n ≤ length s
    → laid (laid d at (text_of (take n s))) (at + 2 * n) (text_of (drop n s)) ≡ laid d at (text_of s)
laid_text_split d at n s h =
    let front : List ℕ = text_of (take n s) in
    let long : length front ≡ 2 * n = omega (arith, text_length (take n s), length-take n s) in
    ap (λ (k : ℕ). laid (laid d at front) (at + k) (text_of (drop n s))) (sym long)
    ∙ laid-append d at front (text_of (drop n s))
    ∙ ap (λ (r : List ℕ). laid d at r) (sym (text_append (take n s) (drop n s)) ∙ ap text_of (take-append-drop n s))

-- ---- the octets of a text

pub octets_length : (s : List ℕ) → length (octets_in s) ≡ length s / 2
unfolding octets_in
octets_length [] = refl
octets_length (h ∷ []) = refl
octets_length (h ∷ l ∷ s) = let more : length (octets_in s) ≡ length s / 2 = octets_length s in omega arith

-- Each is that of a pair of characters.
pair_from : (s : List ℕ) (n i : ℕ) → n ≡ length s / 2 → i < n
    → octet_of (get_or (get_or (first_chunks 2 n s) i []) 0 0) (get_or (get_or (first_chunks 2 n s) i []) 1 0) ≡ get_or (octets_in s) i 0
unfolding octets_in
pair_from s zero i e h = absurd (omega arith)
pair_from [] (suc n) i e h = absurd (omega arith)
pair_from (c ∷ []) (suc n) i e h = absurd (omega arith)
pair_from (c ∷ d ∷ s) (suc n) zero e h = refl
pair_from (c ∷ d ∷ s) (suc n) (suc i) e h = pair_from s n i (omega arith) (omega arith)

pub pair_octet : (s : List ℕ) {pairs : List (List ℕ)} → pairs ≡ first_chunks 2 (length s / 2) s → (i : ℕ) → i < length s / 2
    → octet_of (get_or (get_or pairs i []) 0 0) (get_or (get_or pairs i []) 1 0) ≡ get_or (octets_in s) i 0
pair_octet s e i h = rw e (pair_from s (length s / 2) i refl h)

-- One octet more is laid.
pub octets_next : (d : List ℕ) (at : ℕ) (s : List ℕ) (i count : ℕ) (pairs : List (List ℕ)) {x : ℕ}
    → pairs ≡ first_chunks 2 (length s / 2) s → i < count → i < length s / 2
    → x ≡ octet_of (get_or (get_or (take count pairs) i []) 0 0) (get_or (get_or (take count pairs) i []) 1 0)
    → set (laid d at (take i (octets_in s))) (at + i) x ≡ laid d at (take (i + 1) (octets_in s))
octets_next d at s i count pairs e h k f =
    let pair : get_or (take count pairs) i [] ≡ get_or pairs i [] = get_or-take count pairs i [] h in
    rw (f, pair, pair_octet s e i k) (laid_next d at (octets_in s) i (omega (arith, octets_length s)))

-- The octets of a text stand at the front of what holds them, where that has room.
pub decoded_front : (d s : List ℕ) → length s / 2 ≤ length d → take (length s / 2) (laid d 0 (octets_in s)) ≡ octets_in s
decoded_front d s h =
    ap (λ (n : ℕ). take n (laid d 0 (octets_in s))) (sym (octets_length s)) ∙ laid_front d (octets_in s) (omega (arith, octets_length s))
