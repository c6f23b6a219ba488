-- What `judge` prints of a record that conformed and was changed.
-- Assumes nothing.
use mathlib.Core.Path.{◌≡◌, refl, sym, ap, subst, ◌∙◌}
use mathlib.Core.Bool.{true, false}
use mathlib.Core.List.{List, [], ◌∷◌, ◌++◌}
use Prim.Native.Nat.{ℕ, ◌+◌}
use native.Mathlib.Omega.{arith}
use lib.ListN.{length, get_or, length-append}
use Rattle.laws.specs.Each.{Each}
use Rattle.characters.specs.Digits.{octets_in}
use Rattle.lines.specs.Lines.{lines_of}
use Rattle.packetline.specs.Packet.{is_packet}
use Rattle.beside.specs.Beside.{is_time}
use Rattle.differing.specs.Differing.{differs_text}
use Rattle.conforming.specs.Groups.{Line, Filled, groups_of}
use Rattle.conforming.specs.Conforms.{Conforms}
use Rattle.conforming.specs.Verdict.{Differs, verdict_of}
use Rattle.conforming.specs.Alike.{Alike}
use Rattle.conforming.proofs.Changes.{one_record, times_free, packets-counted}
use Rattle.conforming.proofs.OneLine.{changed_first, changed_differs}
use Rattle.judging.specs.Output.{told, verdict_text, judge_output}
use Rattle.judging.specs.Printed.{unit_profile, unit_station, ConformsUnder, SaysConforming}
use Rattle.judging.specs.Changed.{OneLine, ToldAt, SamePackets, SameFrames}
use Rattle.judging.proofs.Printing.{fit_printed, said_conforms, conforms_said}

-- ---- one TM line

module _ (file a b : List ℕ) (old new : Line) (c : ConformsUnder file a) (digits : is_packet new ≡ true) (other : Alike old new → ⊥) where
  told_there : (earlier : List Line) (before : Line) (later : List Line) → Filled before → Filled old → Filled new
      → lines_of a ≡ (earlier ++ (before ∷ [])) ++ (old ∷ later) → lines_of b ≡ (earlier ++ (before ∷ [])) ++ (new ∷ later)
      → ToldAt file b (length earlier + 2) old new
  unfolding verdict_text
  told_there earlier [] later stands was is e f = absurd stands
  told_there earlier (x ∷ before) later stands was is e f =
      let p = unit_profile file in
      let m = unit_station file in
      let xs : List Line = earlier ++ ((x ∷ before) ∷ []) in
      let fits : Conforms p m (xs ++ (old ∷ later)) = subst (λ (ls : List Line). Conforms p m ls) e c.conforms in
      let d = changed_first p m earlier xs later x before old new refl was is digits other fits in
      let verdict : verdict_of p m (lines_of b) ≡ Differs (length xs + 1) d.tc d.due new =
      ap (verdict_of p m) f ∙ changed_differs p m earlier xs later x before old new refl was is digits other fits in
      let number : length xs + 1 ≡ length earlier + 2 = omega (arith, length-append earlier ((x ∷ before) ∷ [])) in
      record {
        tc = d.tc;
        due = d.due;
        gives = d.gives;
        printed = fit_printed file b c.stated c.fit ∙ ap verdict_text verdict ∙ ap (λ (n : ℕ). differs_text (told n) (told d.tc) d.due new) number;
      }

  -- A TM line of a record that conforms, changed in more than its time to another line of digits: the record is told to differ at that line.
  pub line_told : (number : ℕ) → OneLine a b number old new → ToldAt file b number old new
  line_told number o =
      subst (λ (n : ℕ). ToldAt file b n old new) (sym o.number_is)
      (told_there o.earlier o.before o.later o.stands o.was o.is o.one o.other)

-- Any octet that is not the time's, changed to any other value, alone or with others of its line, is such a change.
pub octet-told : (file a b : List ℕ) (number : ℕ) (old new : Line) → ConformsUnder file a → OneLine a b number old new → is_packet new ≡ true
    → (k : ℕ) → is_time k ≡ false → (get_or (octets_in old) k 0 ≡ get_or (octets_in new) k 0 → ⊥) → ToldAt file b number old new
octet-told file a b number old new c o digits k t differs = line_told file a b old new c digits (λ h. differs (h.same k t)) number o

-- And so is one octet more or less.
pub length-told : (file a b : List ℕ) (number : ℕ) (old new : Line) → ConformsUnder file a → OneLine a b number old new → is_packet new ≡ true
    → (length (octets_in old) ≡ length (octets_in new) → ⊥) → ToldAt file b number old new
length-told file a b number old new c o digits differs = line_told file a b old new c digits (λ h. differs h.as_many) number o

-- ---- any number of lines

module _ (file a b : List ℕ) (c : ConformsUnder file a) (same : SamePackets a b) where
  -- With the same TCs, any change of the frames, of how many there are, of their order, or of the groups that they stand in, is not said to conform.
  pub frames-told : (SameFrames a b → ⊥) → SaysConforming (judge_output file b) → ⊥
  frames-told other s =
      other (one_record (unit_profile file) (unit_station file) (lines_of a) (lines_of b) c.conforms (said_conforms file b s).conforms same)

  -- Any change of times alone is.
  pub times-told : Each (λ (line : Line). is_packet line ≡ true) (lines_of b) → SameFrames a b → SaysConforming (judge_output file b)
  times-told digits h =
      conforms_said file b
      (record {
        stated = c.stated;
        fit = c.fit;
        some = omega (arith, c.some, packets-counted (groups_of (lines_of a)), packets-counted (groups_of (lines_of b)), ap length same);
        conforms = times_free (unit_profile file) (unit_station file) (lines_of a) (lines_of b) c.conforms same digits h;
      })
