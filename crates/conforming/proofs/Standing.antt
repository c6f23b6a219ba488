-- Behind a line that is not empty, what comes next stands in that line's group.
-- Assumes nothing.
use mathlib.Core.Path.{◌≡◌, refl, ap, ◌∙◌}
use mathlib.Core.List.{List, [], ◌∷◌, ◌++◌}
use Prim.Native.Nat.{ℕ, suc, ◌+◌}
use native.Mathlib.Omega.{arith}
use lib.ListN.{length}
use Rattle.laws.specs.Each.{Each}
use Rattle.conforming.specs.Groups.{Line, Group, Filled, ahead, groups_of, first_group, other_groups}

-- There is always a group, and a line that is not empty begins the first.
ahead_some : (c : ℕ) (l : Line) (groups : List Group) → ahead (c ∷ l) groups ≡ ((c ∷ l) ∷ first_group groups) ∷ other_groups groups
unfolding first_group other_groups
ahead_some c l [] = refl
ahead_some c l (g ∷ gs) = refl

pub groups_line : (c : ℕ) (l : Line) (ls : List Line) → groups_of ((c ∷ l) ∷ ls) ≡ ((c ∷ l) ∷ first_group (groups_of ls)) ∷ other_groups (groups_of ls)
unfolding groups_of
groups_line c l ls = ahead_some c l (groups_of ls)

-- The lines of some groups, each with the empty line that ends it.
abbrev pub lines_in : List Group → ℕ
lines_in [] = 0
lines_in (g ∷ rest) = suc (length g + lines_in rest)

-- Where some lines end within a group: whatever comes behind them, up to an empty line, are further TM lines of it.
pub record Within (xs : List Line) : Type 0 where
  pub earlier : List Group
  pub tc : Line
  pub tms : List Line
  pub groups_are : (zs : List Line) → groups_of (xs ++ zs) ≡ earlier ++ ((tc ∷ (tms ++ first_group (groups_of zs))) ∷ other_groups (groups_of zs))
  pub as_many : length xs ≡ lines_in earlier + length tms + 1

within_here : (c : ℕ) (t : Line) → Within ((c ∷ t) ∷ [])
within_here c t = record { earlier = []; tc = c ∷ t; tms = []; groups_are = λ zs. groups_line c t zs; as_many = omega arith }

within_behind : (x : Line) (xs : List Line) (earlier : List Group) (tc : Line) (tms : List Line)
    → ((zs : List Line) → groups_of (xs ++ zs) ≡ earlier ++ ((tc ∷ (tms ++ first_group (groups_of zs))) ∷ other_groups (groups_of zs)))
    → length xs ≡ lines_in earlier + length tms + 1 → Within (x ∷ xs)
unfolding groups_of
within_behind [] xs earlier tc tms e l =
    record { earlier = [] ∷ earlier; tc = tc; tms = tms; groups_are = λ zs. ap (λ (gs : List Group). ahead [] gs) (e zs); as_many = omega arith }
within_behind (c ∷ x) xs [] tc tms e l =
    record { earlier = []; tc = c ∷ x; tms = tc ∷ tms; groups_are = λ zs. ap (λ (gs : List Group). ahead (c ∷ x) gs) (e zs); as_many = omega arith }
within_behind (c ∷ x) xs (g ∷ earlier) tc tms e l =
    record {
      earlier = ((c ∷ x) ∷ g) ∷ earlier;
      tc = tc;
      tms = tms;
      groups_are = λ zs. ap (λ (gs : List Group). ahead (c ∷ x) gs) (e zs);
      as_many = omega arith;
    }

-- Lines of which the last is not empty end within a group.
pub within : (front : List Line) (c : ℕ) (t : Line) → Within (front ++ ((c ∷ t) ∷ []))
within [] c t = within_here c t
within (x ∷ front) c t =
    let w : Within (front ++ ((c ∷ t) ∷ [])) = within front c t in
    within_behind x (front ++ ((c ∷ t) ∷ [])) w.earlier w.tc w.tms w.groups_are w.as_many

-- A line that is not empty is the next TM line.
pub within_line : {xs : List Line} (w : Within xs) (line : Line) (ys : List Line) → Filled line
    → groups_of (xs ++ (line ∷ ys)) ≡ w.earlier ++ ((w.tc ∷ (w.tms ++ (line ∷ first_group (groups_of ys)))) ∷ other_groups (groups_of ys))
unfolding first_group other_groups
within_line w [] ys f = absurd f
within_line w (c ∷ line) ys f =
    w.groups_are ((c ∷ line) ∷ ys)
    ∙ ap (λ (gs : List Group). w.earlier ++ ((w.tc ∷ (w.tms ++ first_group gs)) ∷ other_groups gs)) (groups_line c line ys)

-- Lines that are not empty, and an empty one behind them, are a group.
pub groups_ended : (group rest : List Line) → Each Filled group → groups_of (group ++ ([] ∷ rest)) ≡ group ∷ groups_of rest
unfolding groups_of
groups_ended [] rest f = refl
groups_ended ([] ∷ group) rest f = absurd f.0
groups_ended ((c ∷ line) ∷ group) rest f = ap (λ (gs : List Group). ahead (c ∷ line) gs) (groups_ended group rest f.1)
