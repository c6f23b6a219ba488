-- What a program has marked, and the status that it ends with.
use Rattle.std.specs.Prelude.{◌≡◌, ◌≢◌, ℕ}
use Rattle.console.specs.declared.Mark.{Mark}
use Rattle.console.specs.declared.Mark.TheVariants.{Fine, Differs, Failed}

-- The worse of two marks.
abbrev pub worst : Mark → Mark → Mark
worst Fine m = m
worst Differs Fine = Differs
worst Differs Differs = Differs
worst Differs Failed = Failed
worst Failed _ = Failed

-- The status for what is marked.
abbrev pub status_of : Mark → ℕ
status_of Fine = 0
status_of Differs = 1
status_of Failed = 2

-- What is marked where a program can write no more: that it failed, or nothing more, where nobody reads any more.
abbrev pub LeftUnwritten : Mark → Mark → Type 0
LeftUnwritten before after = after ≢ Failed → after ≡ before
