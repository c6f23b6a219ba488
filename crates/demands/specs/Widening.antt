-- The inspector's third demand, of any terminal: "If one profile is wider than another as document 01 defines it, then from the same start, on the same packets, times and output buffers, both give the same octets, counters and memory up to the first packet that the narrower refuses with 3, 4, 17, 18 or 19. On that packet the wider accepts, or refuses at the same check or a later one, never an earlier one."
use Rattle.std.specs.Prelude.{◌≡◌, Bool, true, false, cond, ◌⊎◌, List, [], ◌∷◌, ◌++◌, ℕ, suc, ◌≤◌, length, eqb}
use Rattle.laws.specs.Each.{among}
use Rattle.octets.specs.Numbers.{octets16}
use Rattle.checks.specs.Verdict.{Verdict}
use Rattle.checks.specs.Verdict.{is_accepted, number_of, detail_of}
use Rattle.map.specs.declared.Profile.{Profile}
use Rattle.wider.specs.Wider.{wider}
use Rattle.terminal.specs.Run.{Machine, Step, Answer, input_for}
use Rattle.demands.specs.Terminal.{Terminal, run_of}

-- The refusals by which two profiles may part. Acceptance, which has no number and counts as 0, is none of them.
abbrev pub parts : Verdict → Bool
parts v = among (number_of v) (3 ∷ 4 ∷ 17 ∷ 18 ∷ 19 ∷ [])

-- The numbers of document 01 in checking order.
abbrev pub order : List ℕ
order = 40 ∷ 41 ∷ 42 ∷ 1 ∷ 2 ∷ 16 ∷ 0 ∷ 3 ∷ 4 ∷ 5 ∷ 17 ∷ 18 ∷ 19 ∷ []

-- The place of a number in a list, from 0; how long the list is where it is not there.
unfoldable pub place_in : ℕ → List ℕ → ℕ
place_in n [] = 0
place_in n (x ∷ rest) = cond (eqb n x) 0 (suc (place_in n rest))

-- Where in checking order a verdict is: at its number, and behind them all where it accepts.
abbrev pub rank : Verdict → ℕ
rank v = cond (is_accepted v) (length order) (place_in (number_of v) order)

-- The answers of two runs, the narrower profile's first: the same up to the first packet that the narrower refuses with 3, 4, 17, 18 or 19, and on that packet the wider's verdict is at the same check or a later one.
unfoldable pub Agree : List Answer → List Answer → Type 0
Agree [] given = given ≡ []
Agree (n ∷ ns) [] = ⊥
Agree (n ∷ ns) (w ∷ ws) =
    (parts n.outcome.verdict ≡ false → (w ≡ n) × Agree ns ws)
    × (parts n.outcome.verdict ≡ true → rank n.outcome.verdict ≤ rank w.outcome.verdict)

-- The demand: the runs of a terminal under two such profiles, each from the states that it reaches itself.
abbrev pub Widens : Terminal → Type 0
Widens f = (wide narrow : Profile) (m : Machine) (steps : List Step) → wider wide narrow (length m.store) ≡ true → Agree (run_of f narrow m steps) (run_of f wide m steps)

-- Two answers, the narrower's first, that differ in the detail of their (1,2) alone, its last two octets, where the wider's is the larger number.
pub record ButForDetail (n w : Answer) : Type 0 where
  pub front : List ℕ
  pub rest : List ℕ
  pub place : length front ≡ 22
  pub narrower : n.out ≡ front ++ octets16 (detail_of n.outcome.verdict) ++ rest
  pub wider : w.out ≡ front ++ octets16 (detail_of w.outcome.verdict) ++ rest
  pub larger : detail_of n.outcome.verdict ≤ detail_of w.outcome.verdict
  pub number_19 : number_of n.outcome.verdict ≡ 19
  pub written : w.outcome.written ≡ n.outcome.written
  pub state : w.outcome.state ≡ n.outcome.state
  pub store : w.store ≡ n.store

-- "When the narrower and the wider profile refuse one packet with the same code from the same state, their reports agree, except that for 19 the wider's block number may be larger."
abbrev pub SameReports : Terminal → Type 0
SameReports f = (wide narrow : Profile) (m : Machine) (s : Step) → wider wide narrow (length m.store) ≡ true
    → is_accepted (f (input_for narrow m s)).outcome.verdict ≡ false → is_accepted (f (input_for wide m s)).outcome.verdict ≡ false
    → number_of (f (input_for narrow m s)).outcome.verdict ≡ number_of (f (input_for wide m s)).outcome.verdict
    → (f (input_for wide m s) ≡ f (input_for narrow m s)) ⊎ ButForDetail (f (input_for narrow m s)) (f (input_for wide m s))
