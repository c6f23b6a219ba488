-- What is wrong with words, beside what they state up to there.
use Rattle.std.specs.Prelude.{Result, Ok, Err}
use Rattle.stating.specs.declared.fault.Fault.{Fault}
use Rattle.stating.specs.declared.fault.Wrong.{Wrong}

-- This is wrong, and up to there that is stated.
abbrev pub wrong : {A : Type 0} → Fault → A → Wrong A
wrong fault told = record { fault = fault; told = told }

-- The same, with what is wrong alone.
abbrev pub plain : {A : Type 0} → Result A (Wrong A) → Result A Fault
plain (Ok x) = Ok x
plain (Err w) = Err w.fault

-- What is stated, or stated up to what is wrong.
abbrev pub told_by : {A : Type 0} → Result A (Wrong A) → A
told_by (Ok x) = x
told_by (Err w) = w.told
