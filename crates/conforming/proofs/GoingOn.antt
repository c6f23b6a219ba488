-- Two records that conform and begin alike go on alike up to the end of the group: so no TM line can be left out, added or moved.
-- Assumes nothing.
use mathlib.Core.Path.{◌≡◌, refl, ap, subst}
use mathlib.Core.List.{List, [], ◌∷◌, ◌++◌}
use Prim.Native.Nat.{ℕ, ◌+◌}
use native.Mathlib.Omega.{arith}
use lib.ListN.{length}
use Rattle.map.specs.declared.Profile.{Profile}
use Rattle.hexline.specs.Line.{Station}
use Rattle.conforming.specs.Groups.{Line, Group, Filled, groups_of, first_group, other_groups}
use Rattle.conforming.specs.Conforms.{frames_for, after_tc, GiveAll, GroupsConform, Conforms}
use Rattle.conforming.specs.Alike.{Alike, AllAlike}
use Rattle.conforming.proofs.Passing.{frames-long}
use Rattle.conforming.proofs.Changes.{give_all_alike}
use Rattle.conforming.proofs.Standing.{groups_line, Within, within}

-- The reference behind some groups.
behind_groups : Profile → Station → List Group → Station
behind_groups p m [] = m
behind_groups p m ([] ∷ rest) = behind_groups p m rest
behind_groups p m ((tc ∷ tms) ∷ rest) = behind_groups p (after_tc p m tc) rest

-- The TM lines of a group that stands behind some others give the frames due there.
group_gives : (p : Profile) (m : Station) (earlier : List Group) (tc : Line) (tms : List Line) (later : List Group)
    → GroupsConform p m (earlier ++ ((tc ∷ tms) ∷ later)) → GiveAll (frames_for p (behind_groups p m earlier) tc) tms
unfolding GroupsConform behind_groups
group_gives p m [] tc tms later c = c.1.0
group_gives p m ([] ∷ earlier) tc tms later c = group_gives p m earlier tc tms later c
group_gives p m ((uc ∷ us) ∷ earlier) tc tms later c = group_gives p (after_tc p m uc) earlier tc tms later c.1.1

-- Lines that are alike are as many.
alike_length : (a b : List Line) → AllAlike a b → length a ≡ length b
unfolding AllAlike
alike_length [] [] h = refl
alike_length [] (y ∷ b) h = absurd h
alike_length (x ∷ a) [] h = absurd h
alike_length (x ∷ a) (y ∷ b) h = omega (arith, alike_length a b h.1)

-- Behind lines that both begin with.
alike_behind : (front a b : List Line) → AllAlike (front ++ a) (front ++ b) → AllAlike a b
unfolding AllAlike
alike_behind [] a b h = h
alike_behind (x ∷ front) a b h = alike_behind front a b h.1

-- The first lines of two groups that are alike are.
first_alike : (a b : Line) (r s : List Line) → Filled a → Filled b → AllAlike (first_group (groups_of (a ∷ r))) (first_group (groups_of (b ∷ s))) → Alike a b
unfolding AllAlike first_group
first_alike [] b r s f g h = absurd f
first_alike (x ∷ a) [] r s f g h = absurd g
first_alike (x ∷ a) (y ∷ b) r s f g h =
    (subst (λ (gs : List Group). AllAlike (first_group gs) (first_group (((y ∷ b) ∷ first_group (groups_of s)) ∷ other_groups (groups_of s)))) (groups_line x a r)
    (subst (λ (gs : List Group). AllAlike (first_group (groups_of ((x ∷ a) ∷ r))) (first_group gs)) (groups_line y b s) h)).0

module _ (p : Profile) (m : Station) (front : List Line) (c : ℕ) (t : Line) where
  -- The lines that both begin with: the last is not empty.
  abbrev begun : List Line
  begun = front ++ ((c ∷ t) ∷ [])

  -- Two records that conform and begin with the same lines, of which the last stands in a group, go on with the same TM lines but for their times up to the empty line that ends it.
  pub goes_on_alike : (r s : List Line) → Conforms p m (begun ++ r) → Conforms p m (begun ++ s) → AllAlike (first_group (groups_of r)) (first_group (groups_of s))
  goes_on_alike r s cr cs =
      let w : Within begun = within front c t in
      let here : Station = behind_groups p m w.earlier in
      let gives : (zs : List Line) → Conforms p m (begun ++ zs) → GiveAll (frames_for p here w.tc) (w.tms ++ first_group (groups_of zs)) =
      λ zs cz. group_gives p m w.earlier w.tc (w.tms ++ first_group (groups_of zs)) (other_groups (groups_of zs))
      (subst (λ (gs : List Group). GroupsConform p m gs) (w.groups_are zs) cz) in
      alike_behind w.tms (first_group (groups_of r)) (first_group (groups_of s))
      (give_all_alike (frames_for p here w.tc) (w.tms ++ first_group (groups_of r)) (w.tms ++ first_group (groups_of s)) (frames-long p here w.tc) (gives r cr) (gives s cs))

  -- So they go on with as many.
  pub goes_on_as_many : (r s : List Line) → Conforms p m (begun ++ r) → Conforms p m (begun ++ s) → length (first_group (groups_of r)) ≡ length (first_group (groups_of s))
  goes_on_as_many r s cr cs = alike_length (first_group (groups_of r)) (first_group (groups_of s)) (goes_on_alike r s cr cs)

  -- ---- a line of a record that conforms left out, added or moved

  -- How many lines a group has from a line that is not empty on, and from an empty one.
  filled_more : (line : Line) (ys : List Line) → Filled line → length (first_group (groups_of (line ∷ ys))) ≡ length (first_group (groups_of ys)) + 1
  unfolding first_group
  filled_more [] ys f = absurd f
  filled_more (d ∷ line) ys f = omega (arith, ap (λ (gs : List Group). length (first_group gs)) (groups_line d line ys))

  blank_none : (ys : List Line) → length (first_group (groups_of ([] ∷ ys))) ≡ 0
  unfolding groups_of first_group
  blank_none ys = refl

  -- Of two records that differ in one TM line left out, or added, at most one conforms.
  pub left_out : (line : Line) (ys : List Line) → Filled line → Conforms p m (begun ++ (line ∷ ys)) → Conforms p m (begun ++ ys) → ⊥
  left_out line ys f c d = omega (arith, goes_on_as_many (line ∷ ys) ys c d, filled_more line ys f)

  -- Nor do both where the empty line that ends a group is left out before another TC, or one is added before a TM line.
  pub blank_left_out : (line : Line) (ys : List Line) → Filled line → Conforms p m (begun ++ ([] ∷ (line ∷ ys))) → Conforms p m (begun ++ (line ∷ ys)) → ⊥
  blank_left_out line ys f c d = omega (arith, goes_on_as_many ([] ∷ (line ∷ ys)) (line ∷ ys) c d, filled_more line ys f, blank_none (line ∷ ys))

  -- Nor where two TM lines that are not alike, whatever stands between and behind them, change places.
  pub moved : (a b : Line) (xs ys : List Line) → Filled a → Filled b → (Alike a b → ⊥)
      → Conforms p m (begun ++ (a ∷ (xs ++ (b ∷ ys)))) → Conforms p m (begun ++ (b ∷ (xs ++ (a ∷ ys)))) → ⊥
  moved a b xs ys f g other c d =
      other (first_alike a b (xs ++ (b ∷ ys)) (xs ++ (a ∷ ys)) f g (goes_on_alike (a ∷ (xs ++ (b ∷ ys))) (b ∷ (xs ++ (a ∷ ys))) c d))
