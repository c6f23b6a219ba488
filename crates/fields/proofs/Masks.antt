-- Shifts, masks and `|` as quotients, remainders and sums: one law for each shape, over the width and the place of a field.
-- Assumes nothing.
use mathlib.Core.Path.{◌≡◌, sym, ap, ap₂, ◌∙◌}
use Prim.Native.Nat.{ℕ, ◌+◌, ◌*◌, ◌/◌, ◌%◌, ◌^◌, ◌-◌, ◌≤◌, ◌<◌}
use native.Mathlib.Nat.{add-zero}
use lib.Bits.{bit_and, bit_or, and_mask, mask_lt, or_shifted}
use lib.Pow.{split, shl_exact}

-- A multiple of 2^k and a number below it have no bit in common.
or_sum : (k hi lo : ℕ) → hi % 2 ^ k ≡ 0 → lo < 2 ^ k → bit_or hi lo ≡ hi + lo
or_sum k hi lo none small =
    let whole : hi / 2 ^ k * 2 ^ k ≡ hi = sym (add-zero (hi / 2 ^ k * 2 ^ k)) ∙ ap (λ (r : ℕ). hi / 2 ^ k * 2 ^ k + r) (sym none) ∙ split hi k in
    ap (λ (h : ℕ). bit_or h lo) (sym whole) ∙ or_shifted (hi / 2 ^ k) k lo small ∙ ap (λ (h : ℕ). h + lo) whole

-- Two words whose values are known, the one a multiple of 2^k and the other below it, joined by `|`.
pub joined : (k : ℕ) {hi lo : ℕ} (h l : ℕ) → hi ≡ h → lo ≡ l → h % 2 ^ k ≡ 0 → l < 2 ^ k → bit_or hi lo ≡ h + l
joined k h l high low none small = ap₂ bit_or high low ∙ or_sum k h l none small

-- A field of j bits, masked and moved up to place k of a word of 16 bits.
pub field : (x j k : ℕ) → j + k ≤ 16 → bit_and x (2 ^ j - 1) * 2 ^ k % 2 ^ 16 ≡ x % 2 ^ j * 2 ^ k
field x j k fits = shl_exact j k 16 (mask_lt x j) fits ∙ ap (λ (m : ℕ). m * 2 ^ k) (and_mask x j)
