-- What `judge` prints is permitted, and nothing else is; its first line is `conforming` just where the record conforms.
-- Assumes nothing.
use mathlib.Core.Path.{◌≡◌, refl, sym, ap, subst, ◌∙◌}
use mathlib.Core.Bool.{true, false, false≢true}
use mathlib.Core.List.{List, [], ◌∷◌, ◌++◌}
use Prim.Native.Nat.{ℕ, ◌<◌}
use native.Mathlib.Omega.{arith}
use lib.ListN.{take, get_or}
use Rattle.std.specs.Prelude.{Some, is_ok, Result, Ok, Err}
use Rattle.laws.proofs.Tests.{by-test}
use Rattle.lines.specs.Lines.{lines_of}
use Rattle.clauses.specs.declared.Clause.{Clause}
use Rattle.clauses.specs.Clauses.{clause_of}
use Rattle.clauses.proofs.Soundness.{clause_tells}
use Rattle.clauses.proofs.Firsts.{sound_only}
use Rattle.stating.specs.declared.fault.Fault.{Fault}
use Rattle.packline.specs.declared.Halt.TheVariants.{Unit as Faulty}
use Rattle.telling.specs.Telling.{unit_line, unsound_line}
use Rattle.clausewords.specs.Clausewords.{clause_line}
use Rattle.differing.specs.Differing.{differs_text}
use Rattle.conforming.specs.Groups.{groups_of}
use Rattle.conforming.specs.Conforms.{Conforms, packets_in, frames_in}
use Rattle.conforming.specs.Verdict.{Verdict, Conforming, Differs, Refused70, Refused71, verdict_of}
use Rattle.conforming.specs.Permitted.{Permitted, conforms, differing, refused_70, refused_71}
use Rattle.conforming.proofs.Verdicts.{verdict_permitted, permitted_verdict, conforms_conforming}
use Rattle.desk.specs.Place.{is_halted}
use Rattle.feeding.specs.Output.{unit_of, unit_behind, pack_first}
use Rattle.feeding.proofs.Units.{unit_fault}
use Rattle.judging.specs.Output.{verdict_text, judged_under, judge_output}
use Rattle.judging.specs.Printed.{unit_profile, unit_station, is_fit, Printed, bad_file, refused_41, judged, ConformsUnder, SaysConforming}
use Rattle.judging.proofs.Whole.{judge_verdict}

module _ (file text : List ℕ) where
  -- ---- what is printed, case by case

  bad_printed : (fault : Fault) → (unit_of file).halt ≡ Some (Faulty fault) → judge_output file text ≡ unit_line (unit_of file).number fault
  unfolding judged_under
  bad_printed fault e = rw e refl

  told_fit : is_ok (clause_of (unit_of file).draft.profile (unit_of file).draft.stored) ≡ is_fit (unit_of file)
  told_fit = clause_tells (unit_of file).draft.profile (unit_of file).draft.stored

  -- A unit that is not fit fails a clause.
  clause_failed : (c : Result Unit Clause) → is_ok c ≡ false → (clause : Clause) × (c ≡ Err clause)
  clause_failed (Ok _) h = absurd (false≢true (sym h))
  clause_failed (Err clause) h = (clause, refl)

  unfit_printed : is_halted (unit_of file) ≡ false → (clause : Clause) → clause_of (unit_of file).draft.profile (unit_of file).draft.stored ≡ Err clause
      → judge_output file text ≡ unsound_line ++ clause_line clause
  unfolding judged_under
  unfit_printed h clause f = rw (h, f) refl

  -- What is printed for a unit that is fit is the text of the verdict.
  pub fit_printed : is_halted (unit_of file) ≡ false → is_fit (unit_of file) ≡ true → judge_output file text ≡ verdict_text (verdict_of (unit_profile file) (unit_station file) (lines_of text))
  unfolding judged_under
  fit_printed h f = rw (h, sound_only _ (told_fit ∙ f)) (judge_verdict (pack_first (unit_of file) (unit_behind file).store) text refl)

  -- What `judge` prints is permitted.
  pub judge_printed : Printed file text (judge_output file text)
  judge_printed =
      by-test (is_halted (unit_of file))
      (λ h. let f = unit_fault file h in subst (Printed file text) (sym (bad_printed f.0 f.1)) (bad_file f.0 f.1))
      (λ h. by-test (is_fit (unit_of file))
      (λ f. subst (Printed file text) (sym (fit_printed h f))
      (judged h f (verdict_of (unit_profile file) (unit_station file) (lines_of text)) (verdict_permitted (unit_profile file) (unit_station file) (lines_of text))))
      (λ f. let e = clause_failed _ (told_fit ∙ f) in subst (Printed file text) (sym (unfit_printed h e.0 e.1)) (refused_41 h f e.0 e.1)))

  -- Nothing else is permitted.
  pub printed_judge : (out : List ℕ) → Printed file text out → out ≡ judge_output file text
  printed_judge out (bad_file fault e) = sym (bad_printed fault e)
  printed_judge out (refused_41 h f clause e) = sym (unfit_printed h clause e)
  printed_judge out (judged h f v a) =
      ap verdict_text (permitted_verdict (unit_profile file) (unit_station file) (lines_of text) v a) ∙ sym (fit_printed h f)

  -- Any two answers that are permitted are equal.
  pub printed_one : (a b : List ℕ) → Printed file text a → Printed file text b → a ≡ b
  printed_one a b x y = printed_judge a x ∙ sym (printed_judge b y)

  -- ---- `conforming`, exactly

  -- The first character of the other answers is another.
  other : (out : List ℕ) (c : ℕ) → take 1 out ≡ c ∷ [] → (c ≡ 0x63 → ⊥) → SaysConforming out → ⊥
  other [] c e n s = let z : ◌≡◌ {A = ℕ} 0 1 = cc in omega arith
  other (x ∷ out) c e n s =
      let first : x ≡ c = cc in
      let here : get_or (take 11 (x ∷ out)) 0 0 ≡ 0x63 = ap (λ (l : List ℕ). get_or l 0 0) s in
      n (sym first ∙ here)

  verdict_conforms : (v : Verdict) → SaysConforming (verdict_text v) → Permitted (unit_profile file) (unit_station file) (lines_of text) v
      → Conforms (unit_profile file) (unit_station file) (lines_of text) × (0 < packets_in (groups_of (lines_of text)))
  unfolding verdict_text differs_text
  verdict_conforms v s (conforms c some) = (c, some)
  verdict_conforms v s (differing number tc due line at) = absurd (other (verdict_text (Differs number tc due line)) 0x64 refl (λ e. omega arith) s)
  verdict_conforms v s (refused_70 number line at) = absurd (other (verdict_text (Refused70 number line)) 0x72 refl (λ e. omega arith) s)
  verdict_conforms v s (refused_71 e) = absurd (other (verdict_text Refused71) 0x72 refl (λ e. omega arith) s)

  printed_conforms : (out : List ℕ) → SaysConforming out → Printed file text out → ConformsUnder file text
  unfolding unit_line
  printed_conforms out s (bad_file fault e) = absurd (other (unit_line (unit_of file).number fault) 0x75 refl (λ e. omega arith) s)
  printed_conforms out s (refused_41 h f clause e) = absurd (other (unsound_line ++ clause_line clause) 0x72 refl (λ z. omega arith) s)
  printed_conforms out s (judged h f v a) =
      let c = verdict_conforms v s a in
      record { stated = h; fit = f; some = c.1; conforms = c.0 }

  -- Where the first line that is printed is `conforming`, the record conforms under the unit file.
  pub said_conforms : SaysConforming (judge_output file text) → ConformsUnder file text
  said_conforms s = printed_conforms (judge_output file text) s judge_printed

  -- Where the record conforms under the unit file, the first line that is printed is `conforming`.
  pub conforms_said : ConformsUnder file text → SaysConforming (judge_output file text)
  unfolding verdict_text
  conforms_said c =
      let as_printed : judge_output file text ≡ verdict_text (Conforming (packets_in (groups_of (lines_of text))) (frames_in (groups_of (lines_of text)))) =
      fit_printed c.stated c.fit ∙ ap verdict_text (conforms_conforming (unit_profile file) (unit_station file) (lines_of text) c.conforms c.some) in
      ap (take 11) as_printed
