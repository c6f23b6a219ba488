-- Whole lines, by computation.
use Rattle.std.specs.Prelude.{◌≡◌, refl}
use Rattle.words.specs.Ascii.{ascii}
use Rattle.numerals.specs.Numbers.{decimal_from, decimal_of}
use Rattle.clauses.specs.declared.Clause.TheVariants.{PastTop, SameId, Shared}
use Rattle.clausewords.specs.Clausewords.{clause_line}

pub past_top : clause_line (PastTop 2) ≡ ascii "area 2 ends above address FFFFFFFF\n"
unfolding clause_line decimal_of decimal_from
past_top = refl

pub same_id : clause_line (SameId 2 5) ≡ ascii "areas 2 and 5 have the same memory ID\n"
unfolding clause_line decimal_of decimal_from
same_id = refl

pub shared : clause_line (Shared 2 5 1200) ≡ ascii "areas 2 and 5 share octet 1200\n"
unfolding clause_line decimal_of decimal_from
shared = refl
