-- Document 01, "Each category has its own count, starting at 0, and 16,383 is followed by 0".
use Rattle.std.specs.Prelude.{ℕ, ◌+◌, ◌%◌, Bool, cond, ◌&&◌, List, ◌==◌, nat_le}
use Rattle.octets.specs.Numbers.{word16}
use Rattle.counts.specs.declared.Counts.{Counts}

-- The largest count, of 14 bits.
abbrev pub count_most : ℕ
count_most = 16383

-- The count after a count.
abbrev pub next_count : ℕ → ℕ
next_count count = (count + 1) % (count_most + 1)

-- The category of a service's reports: 1 for service 1, 9 for services 6 and 17.
unfoldable pub category_of : ℕ → ℕ
category_of kind = cond (kind == 1) 1 9

-- The count of a category.
unfoldable pub count_in : Counts → ℕ → ℕ
count_in c category = cond (category == 1) c.reports c.services

-- The counts with that of a category advanced by one.
unfoldable pub advanced : Counts → ℕ → Counts
advanced c category =
    cond (category == 1)
    (record { reports = next_count c.reports; services = c.services })
    (record { reports = c.reports; services = next_count c.services })

-- Every count has 14 bits.
unfoldable pub in_range : Counts → Bool
in_range c = nat_le c.reports count_most && nat_le c.services count_most

-- At the start every count is 0.
abbrev pub no_counts : Counts
no_counts = record { reports = 0; services = 0 }

-- How many octets the counts are, two for each category, and the counts that some octets state; octets past the end count as 0.
abbrev pub counts_octets : ℕ
counts_octets = 4

abbrev pub counts_in : List ℕ → Counts
counts_in s = record { reports = word16 s 0; services = word16 s 2 }

-- The count that a report of a service is stamped with, and the counts after it: those of its category.
abbrev pub count_for : Counts → ℕ → ℕ
count_for c kind = count_in c (category_of kind)

abbrev pub counted : Counts → ℕ → Counts
counted c kind = advanced c (category_of kind)
