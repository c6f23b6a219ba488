-- The words behind two more.
-- Assumes nothing.
use Rattle.std.proofs.Common.{◌≡◌, ℕ, ◌+◌, List, drop}
use lib.Seq.{drop-drop}

pub two_more : (n : ℕ) (ws : List (List ℕ)) → drop 2 (drop n ws) ≡ drop (n + 2) ws
two_more n ws = drop-drop 2 n ws
