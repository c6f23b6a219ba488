-- Document 02, wish 9: the tables that the CRC is worked out by.
use Rattle.std.specs.Prelude.{◌≡◌, List, ◌∷◌, ℕ, ◌+◌, ◌*◌, ◌<◌, get_or, replicate}
use Rattle.crc.specs.Register.{crc_from}

-- What an octet leaves in a register that held 0, once k octets 0 have come behind it.
abbrev pub leaves : ℕ → ℕ → ℕ
leaves k x = crc_from 0 (x ∷ replicate k 0)

-- A list is n tables of 256 entries, one behind another: the entry of an octet with k octets behind it stands in table k, counted from 0, and is what the octet leaves.
pub record Tables (n : ℕ) (t : List ℕ) : Type 0 where
  pub entries_are : (k x : ℕ) → k < n → x < 256 → get_or t (k * 256 + x) 0 ≡ leaves k x
