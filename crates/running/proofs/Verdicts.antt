-- What is marked where a program has not stopped.
-- Assumes nothing.
use Rattle.std.proofs.Common.{◌≡◌, refl}
use Rattle.console.specs.declared.Mark.{Mark}
use Rattle.console.specs.declared.Mark.TheVariants.{Fine, Differs, Failed}
use Rattle.console.specs.Marks.{worst}

-- To mark that all is fine is to mark nothing.
pub worst_fine : (m : Mark) → worst m Fine ≡ m
worst_fine Fine = refl
worst_fine Differs = refl
worst_fine Failed = refl
