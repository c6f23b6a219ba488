-- Laws of the counts: what follows a count, which count a report advances, and that counts of 14 bits stay so.
-- Assumes nothing.
use Rattle.std.proofs.Common.{◌≡◌, ℕ, ◌+◌, ◌<◌, ◌≤◌, true, eqb, leb, refl, arith, ne_eqb, le-leb, leb-true}
use Rattle.laws.proofs.Tests.{by-test, both}
use Rattle.counts.specs.declared.Counts.{Counts}
use Rattle.counts.specs.Counts.{count_most, next_count, category_of, count_in, advanced, in_range, count_for, counted}

-- Below 16,383 the next count is one more.
pub next_of_less : (count : ℕ) → count < count_most → next_count count ≡ count + 1
next_of_less count h = omega arith

-- 16,383 is followed by 0.
pub next_of_most : next_count count_most ≡ 0
next_of_most = refl

-- What follows is in range, whatever came before.
pub next_bounded : (count : ℕ) → next_count count ≤ count_most
next_bounded count = omega arith

-- A report of service 1 advances the count of category 1 and leaves that of category 9.
pub counted_report : (c : Counts) → counted c 1 ≡ record { reports = next_count c.reports; services = c.services }
unfolding category_of advanced
counted_report c = refl

-- A report of any other service advances the count of category 9 and leaves that of category 1.
pub counted_service : (c : Counts) (kind : ℕ) → (kind ≡ 1 → ⊥) → counted c kind ≡ record { reports = c.reports; services = next_count c.services }
unfolding category_of advanced
counted_service c kind other = rw (ne_eqb kind 1 other)

-- Counts in range have at most 14 bits each.
pub range_bounds : (c : Counts) → in_range c ≡ true → (c.reports ≤ count_most) × (c.services ≤ count_most)
unfolding in_range
range_bounds c h =
    let halves = both (leb c.reports count_most) (leb c.services count_most) h in
    (leb-true _ _ halves.0, leb-true _ _ halves.1)

pub bounds_range : (c : Counts) → c.reports ≤ count_most → c.services ≤ count_most → in_range c ≡ true
unfolding in_range
bounds_range c h k = rw (le-leb _ _ h, le-leb _ _ k)

advanced_in_range : (c : Counts) (category : ℕ) → in_range c ≡ true → in_range (advanced c category) ≡ true
unfolding advanced
advanced_in_range c category h =
    let bounds = range_bounds c h in
    by-test (eqb category 1)
    (λ t. rw t (bounds_range _ (next_bounded c.reports) bounds.1))
    (λ e. rw e (bounds_range _ bounds.0 (next_bounded c.services)))

-- A report keeps the counts in range.
pub counted_in_range : (c : Counts) (kind : ℕ) → in_range c ≡ true → in_range (counted c kind) ≡ true
counted_in_range c kind h = advanced_in_range c (category_of kind) h

-- A category has 4 bits.
pub category_small : (kind : ℕ) → category_of kind < 16
unfolding category_of
category_small kind = by-test (eqb kind 1) (λ t. rw t (omega arith)) (λ e. rw e (omega arith))

-- The count that a report is stamped with has 14 bits, where every count has.
pub count_small : (c : Counts) (kind : ℕ) → in_range c ≡ true → count_for c kind < 16384
unfolding count_in in_range
count_small c kind h =
    let counts = both (leb c.reports count_most) (leb c.services count_most) h in
    by-test (eqb (category_of kind) 1)
    (λ t. rw t (omega (arith, leb-true c.reports count_most counts.0)))
    (λ e. rw e (omega (arith, leb-true c.services count_most counts.1)))
