-- The published vectors of the ISO checksum, by computation, and what each is for.
use Rattle.std.specs.Prelude.{◌≡◌, refl, List, [], ◌∷◌, map, ℕ, ◌%◌}
use Rattle.laws.specs.Fold.{reached}
use Rattle.iso.specs.Checksum.{modulus, added, sums_of, iso_of}
use Rattle.iso.specs.Closing.{total, weighted}

-- The messages.
abbrev pub messages : List (List ℕ)
messages =
    (0x00 ∷ 0x00 ∷ []) ∷
    (0x00 ∷ 0x00 ∷ 0x00 ∷ []) ∷
    (0xab ∷ 0xcd ∷ 0xef ∷ 0x01 ∷ []) ∷
    (0x14 ∷ 0x56 ∷ 0xf8 ∷ 0x9a ∷ 0x00 ∷ 0x01 ∷ []) ∷ []

-- Their checksums, as they are printed.
abbrev pub printed : List ℕ
printed = 0xffff ∷ 0xffff ∷ 0x9cf8 ∷ 0x24dc ∷ []

pub by_sums : map iso_of messages ≡ printed
unfolding reached added sums_of iso_of
by_sums = refl

-- Each message with the two octets printed for it behind.
abbrev pub closed : List (List ℕ)
closed =
    (0x00 ∷ 0x00 ∷ 0xff ∷ 0xff ∷ []) ∷
    (0x00 ∷ 0x00 ∷ 0x00 ∷ 0xff ∷ 0xff ∷ []) ∷
    (0xab ∷ 0xcd ∷ 0xef ∷ 0x01 ∷ 0x9c ∷ 0xf8 ∷ []) ∷
    (0x14 ∷ 0x56 ∷ 0xf8 ∷ 0x9a ∷ 0x00 ∷ 0x01 ∷ 0x24 ∷ 0xdc ∷ []) ∷ []

pub by_totals : map (λ xs. total xs % modulus) closed ≡ 0 ∷ 0 ∷ 0 ∷ 0 ∷ []
unfolding total
by_totals = refl

pub by_weights : map (λ xs. weighted xs % modulus) closed ≡ 0 ∷ 0 ∷ 0 ∷ 0 ∷ []
unfolding weighted
by_weights = refl
