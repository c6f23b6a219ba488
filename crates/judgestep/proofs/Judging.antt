-- What the judge does with a line, and at the end of the input.
-- Assumes nothing.
use mathlib.Core.Path.{◌≡◌, refl, ap, ◌∙◌}
use mathlib.Core.Bool.{true, false}
use mathlib.Core.List.{List, []}
use Prim.Native.Nat.{ℕ}
use Rattle.saying.specs.Text.{Says}
use Rattle.saying.proofs.Saying.{says_as, says_append}
use Rattle.packline.specs.declared.Halt.TheVariants.{Long}
use Rattle.grouping.specs.Group.{next_number}
use Rattle.desk.specs.declared.Desk.{Desk}
use Rattle.desk.specs.declared.Done.{Done}
use Rattle.desk.specs.Place.{Place, counted, halting, is_halted, at_desk, counting}
use Rattle.desk.specs.Did.{Did}
use Rattle.judgeline.specs.Step.{bad_says, outside_says, outside_becomes, inside_says, inside_desk}
use Rattle.concluding.specs.Closing.{closing_says, closing_desk}
use Rattle.judgestep.specs.Step.{judge_says, judge_becomes, judge_long_says, judge_long_desk, end_says, end_becomes}

module _ (m : Place) (line : List ℕ) (going : is_halted m.desk ≡ false) where
  -- Inside of a group, and outside of one.
  pub cond-inside : m.desk.group.«open» ≡ true
      → (judge_says m line ≡ inside_says (counted m.desk) m.out line) × (judge_becomes m line ≡ at_desk m (inside_desk (counted m.desk) m.out line))
  unfolding judge_says judge_becomes
  cond-inside o = (rw going (rw o refl), rw going (rw o refl))

  pub cond_outside : m.desk.group.«open» ≡ false → (judge_says m line ≡ outside_says (counting m) line) × (judge_becomes m line ≡ outside_becomes (counting m) line)
  unfolding judge_says judge_becomes
  cond_outside o = (rw going (rw o refl), rw going (rw o refl))

-- ---- the end of the input

pub did_end : (m : Place) {at : ℕ} {text : List ℕ} (last r : Done) {store out t t' : List ℕ} → Did (judge_says m []) (judge_becomes m []) at text last store out t
    → Says (closing_says last.desk) last.at t r.at t' → r.desk ≡ closing_desk last.desk
    → Did (end_says m) (end_becomes m) at text r store out t'
did_end m last r a s d = record {
  says = says_append a.says (says_as (ap closing_says a.desk_is) s);
  desk_is = d ∙ ap closing_desk a.desk_is;
  store_is = a.store_is;
  out_is = a.out_is;
}

-- ---- for those who follow the judge over a record

-- A judge that has stopped says nothing more.
pub stopped : (m : Place) (line : List ℕ) → is_halted m.desk ≡ true → (judge_says m line ≡ []) × (judge_becomes m line ≡ m)
unfolding judge_says judge_becomes
stopped m line h = rw h (refl, refl)

pub long_stopped : (d : Desk) → is_halted d ≡ true → (judge_long_says d ≡ []) × (judge_long_desk d ≡ d)
unfolding judge_long_says judge_long_desk
long_stopped d h = rw h (refl, refl)

pub long_going : (d : Desk) → is_halted d ≡ false → (judge_long_says d ≡ bad_says (next_number d.number) Long) × (judge_long_desk d ≡ halting (counted d) Long)
unfolding judge_long_says judge_long_desk
long_going d h = rw h (refl, refl)
