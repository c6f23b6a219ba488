-- What the ISO checksum is for: it closes its octets, no other two octets do, and wrong ways to give it do not.
-- Assumes nothing.
use mathlib.Core.Path.{◌≡◌, refl, sym, ap, ap₂, ◌∙◌}
use mathlib.Core.List.{List, [], ◌∷◌, ◌++◌}
use Prim.Native.Nat.{ℕ, ◌+◌, ◌-◌, ◌*◌, ◌/◌, ◌%◌, ◌<◌}
use native.Mathlib.Nat.{zero-add, mod-mod}
use native.Mathlib.Omega.{arith}
use Rattle.laws.specs.Fold.{reached}
use Rattle.iso.specs.Checksum.{modulus, added, sums_of, minus, ck1, ck2, iso_of}
use Rattle.iso.specs.Closing.{total, weighted, NoZero, Closes, ClosesAll, SendsZero, Exchanges, MindsNoOrder}
use Rattle.iso.proofs.Laws.{plus-mod, minus_cancels, minus_only, sent_of, sent_only, sums_whole, total-append, weighted-append}

-- The sums of some octets and two more.
two_total : (xs : List ℕ) (a b : ℕ) → total (xs ++ a ∷ b ∷ []) ≡ total xs + a + b
unfolding total
two_total xs a b = total-append xs (a ∷ b ∷ []) ∙ omega arith

two_weighted : (xs : List ℕ) (a b : ℕ) → weighted (xs ++ a ∷ b ∷ []) ≡ weighted xs + 2 * total xs + 2 * a + b
unfolding total weighted
two_weighted xs a b = weighted-append xs (a ∷ b ∷ []) ∙ omega arith

-- Over plain numbers, modulo 255: two octets that are what the rule sends bring both sums to 0, and no others do.
module _ (t w c0 c1 a b : ℕ) (p : c0 % modulus ≡ t % modulus) (q : c1 % modulus ≡ w % modulus) where
  rule_closes : a % modulus ≡ minus (c0 + c1) → b % modulus ≡ c1 % modulus → ((t + a + b) % modulus ≡ 0) × ((w + 2 * t + 2 * a + b) % modulus ≡ 0)
  rule_closes x y =
      let m : ℕ = minus (c0 + c1) in
      let sums : (t + w) % modulus ≡ (c0 + c1) % modulus = plus-mod t c0 w c1 (sym p) (sym q) in
      let both : (t + w + a) % modulus ≡ 0 =
      plus-mod (t + w) (c0 + c1) a m sums (x ∙ sym (mod-mod (modulus - (c0 + c1) % modulus) modulus)) ∙ minus_cancels (c0 + c1) in
      let last : b % modulus ≡ w % modulus = y ∙ q in
      let first : t + a + w ≡ t + w + a = omega arith in
      let second : w + 2 * t + 2 * a + w ≡ (t + w + a) + (t + w + a) = omega arith in (
        plus-mod (t + a) (t + a) b w refl last ∙ ap (λ (n : ℕ). n % modulus) first ∙ both,
        plus-mod (w + 2 * t + 2 * a) (w + 2 * t + 2 * a) b w refl last
            ∙ ap (λ (n : ℕ). n % modulus) second
            ∙ plus-mod (t + w + a) 0 (t + w + a) 0 both both,
      )

  rule_only : (t + a + b) % modulus ≡ 0 → (w + 2 * t + 2 * a + b) % modulus ≡ 0 → (a % modulus ≡ minus (c0 + c1)) × (b % modulus ≡ c1 % modulus)
  rule_only x y =
      let parted : (t + a + b) + (t + w + a) ≡ w + 2 * t + 2 * a + b = omega arith in
      let both : (t + w + a) % modulus ≡ 0 =
      sym (plus-mod (t + a + b) 0 (t + w + a) (t + w + a) x refl ∙ ap (λ (n : ℕ). n % modulus) (zero-add (t + w + a))) ∙ ap (λ (n : ℕ). n % modulus) parted ∙ y in
      let turned : t + a + w ≡ t + w + a = omega arith in (
        minus_only (c0 + c1) a (plus-mod (c0 + c1) (t + w) a a (plus-mod c0 t c1 w p q) refl ∙ both),
        minus_only (t + a) b x ∙ sym (minus_only (t + a) w (ap (λ (n : ℕ). n % modulus) turned ∙ both)) ∙ sym q,
      )

module _ (xs : List ℕ) where
  first : NoZero (ck1 (sums_of xs)) × (ck1 (sums_of xs) % modulus ≡ minus ((sums_of xs).c0 + (sums_of xs).c1))
  first = sent_of (minus ((sums_of xs).c0 + (sums_of xs).c1)) (omega arith)

  second : NoZero (ck2 (sums_of xs)) × (ck2 (sums_of xs) % modulus ≡ (sums_of xs).c1 % modulus)
  second = sent_of ((sums_of xs).c1 % modulus) (omega arith)

  -- The two octets of the checksum.
  iso_high : iso_of xs / 256 ≡ ck1 (sums_of xs)
  unfolding iso_of
  iso_high = omega (arith, second.0.1)

  iso_low : iso_of xs % 256 ≡ ck2 (sums_of xs)
  unfolding iso_of
  iso_low = omega (arith, second.0.1)

  pub iso_lt : iso_of xs < 65536
  unfolding iso_of
  iso_lt = omega (arith, first.0.1, second.0.1)

  rule : Closes xs (ck1 (sums_of xs)) (ck2 (sums_of xs))
  rule =
      let s = sums_of xs in
      let whole = sums_whole xs in
      let zero = rule_closes (total xs) (weighted xs) s.c0 s.c1 (ck1 s) (ck2 s) whole.0 whole.1 first.1 second.1 in
      record {
        first = first.0;
        second = second.0;
        sums = (ap (λ (n : ℕ). n % modulus) (two_total xs (ck1 s) (ck2 s)) ∙ zero.0, ap (λ (n : ℕ). n % modulus) (two_weighted xs (ck1 s) (ck2 s)) ∙ zero.1);
      }

  -- No other two octets close the same ones.
  pub no_other : (a b : ℕ) → Closes xs a b → a * 256 + b ≡ iso_of xs
  unfolding iso_of
  no_other a b c =
      let s = sums_of xs in
      let whole = sums_whole xs in
      let x : (total xs + a + b) % modulus ≡ 0 = ap (λ (n : ℕ). n % modulus) (sym (two_total xs a b)) ∙ c.sums.0 in
      let y : (weighted xs + 2 * total xs + 2 * a + b) % modulus ≡ 0 = ap (λ (n : ℕ). n % modulus) (sym (two_weighted xs a b)) ∙ c.sums.1 in
      let only = rule_only (total xs) (weighted xs) s.c0 s.c1 a b whole.0 whole.1 x y in
      ap₂ (λ (m n : ℕ). m * 256 + n) (sent_only (minus (s.c0 + s.c1)) a c.first only.0) (sent_only (s.c1 % modulus) b c.second only.1)

-- The two octets of the checksum close the octets that it is over.
pub iso_closes : ClosesAll iso_of
iso_closes xs = rw (iso_high xs, iso_low xs) (rule xs)

module _ (f : List ℕ → ℕ) (law : ClosesAll f) where
  -- Whatever closes all octets is that checksum.
  pub only_iso : (xs : List ℕ) → f xs ≡ iso_of xs
  only_iso xs = omega (arith, no_other xs (f xs / 256) (f xs % 256) (law xs))

  pub sending_fails : SendsZero f → ⊥
  sending_fails h = absurd (omega (arith, (law (0 ∷ 0 ∷ [])).first.0))

  pub exchanging_fails : Exchanges f → ⊥
  unfolding reached added sums_of iso_of
  exchanging_fails h = absurd (omega (arith, only_iso (1 ∷ []), h (1 ∷ [])))

  pub unordered_fails : MindsNoOrder f → ⊥
  unfolding reached added sums_of iso_of
  unordered_fails h = absurd (omega (arith, only_iso (0 ∷ 1 ∷ []), only_iso (1 ∷ 0 ∷ []), h 0 1))
