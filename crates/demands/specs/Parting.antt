-- Demand 3 speaks of something: for each of 3, 4, 17, 18 and 19 packets on which two profiles part.
use Rattle.std.specs.Prelude.{◌≡◌, List, [], ◌∷◌, ◌++◌, ℕ, ◌<◌}
use Rattle.terminal.specs.Outcome.{verdict_on}
use Rattle.demands.specs.Widening.{rank}
use Rattle.demands.specs.Cases.{command, block, over, narrow, wide}
use Rattle.demands.specs.Listing.{told}

-- A packet, the narrower's number and detail, and the wider's; nothing stands for acceptance.
pub record Case : Type 0 where
  pub packet : List ℕ
  pub narrower : List ℕ
  pub wider : List ℕ

-- A case put together.
abbrev pub parting : List ℕ → List ℕ → List ℕ → Case
parting packet narrower wider = record { packet = packet; narrower = narrower; wider = wider }

-- Both profiles answer so, and the wider's verdict is at a later check.
abbrev pub Parted : Case → Type 0
Parted c =
    (told (verdict_on (over narrow 512 c.packet)) ≡ c.narrower)
    × (told (verdict_on (over wide 512 c.packet)) ≡ c.wider)
    × (rank (verdict_on (over narrow 512 c.packet)) < rank (verdict_on (over wide 512 c.packet)))

-- The wider accepts; in the third it refuses by 19.
unfoldable pub partings : List Case
partings =
    parting (command 17 1 []) (3 ∷ 17 ∷ []) []
    ∷ parting (command 6 5 (1 ∷ 1 ∷ block 0x1000 1)) (4 ∷ 0x0605 ∷ []) []
    ∷ parting (command 6 5 (1 ∷ 1 ∷ block 0x1080 1)) (4 ∷ 0x0605 ∷ []) (19 ∷ 1 ∷ [])
    ∷ parting (command 6 2 (2 ∷ 1 ∷ (block 0x2000 1 ++ 0x12 ∷ 0x34 ∷ []))) (17 ∷ 2 ∷ []) []
    ∷ parting (command 6 9 (1 ∷ 1 ∷ block 0x1000 1)) (18 ∷ 1 ∷ []) []
    ∷ parting (command 6 2 (1 ∷ 1 ∷ (block 0x1050 1 ++ 0x12 ∷ 0x34 ∷ []))) (19 ∷ 1 ∷ []) []
    ∷ []
