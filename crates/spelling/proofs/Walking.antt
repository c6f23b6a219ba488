-- Octets beside the pairs of characters that spell them.
-- Assumes nothing.
use mathlib.Core.Path.{◌≡◌, refl, ap}
use mathlib.Core.Bool.{Bool, ◌&&◌}
use mathlib.Core.List.{List, [], ◌∷◌}
use Prim.Native.Nat.{ℕ, zero, suc, ◌*◌}
use native.Mathlib.Omega.{arith}
use lib.ListN.{length, get_or}
use Rattle.std.specs.List.{list_all, zip}
use Rattle.std.specs.Simd.{first_chunks}
use Rattle.spelling.specs.Spelling.{spelled, spelled_all}

-- Whether a pair of characters spells an octet.
abbrev pub spelled_by : ℕ × List ℕ → Bool
spelled_by p = spelled p.0 (get_or p.1 0 0) (get_or p.1 1 0)

-- Octets are spelled where each is spelled by its pair.
pub spelled_pairs : (octets text : List ℕ) (n : ℕ) → n ≡ length octets → length text ≡ 2 * length octets → list_all spelled_by (zip octets (first_chunks 2 n text)) ≡ spelled_all octets text
unfolding spelled_all
spelled_pairs [] text n e h = refl
spelled_pairs (x ∷ octets) [] n e h = absurd (omega arith)
spelled_pairs (x ∷ octets) (c ∷ []) n e h = absurd (omega arith)
spelled_pairs (x ∷ octets) (c ∷ d ∷ text) zero e h = absurd (omega arith)
spelled_pairs (x ∷ octets) (c ∷ d ∷ text) (suc n) e h = ap (λ (b : Bool). spelled x c d && b) (spelled_pairs octets text n (omega arith) (omega arith))
