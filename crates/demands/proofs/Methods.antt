-- Check 2 goes by the method that the flag selects: the reader meets the rule, wrong readers do not, and examples by computation.
-- Assumes nothing.
use mathlib.Core.Path.{◌≡◌, refl, sym, ap, ◌∙◌}
use mathlib.Core.Bool.{true, false, false≢true}
use mathlib.Core.List.{List, [], ◌∷◌, ◌++◌, map}
use Prim.Native.Nat.{ℕ, ◌+◌, ◌-◌, ◌/◌, ◌%◌, ◌≤◌}
use native.Mathlib.Omega.{arith}
use lib.ListN.{length, take-append-drop}
use lib.Dec.{eqb}
use Rattle.laws.proofs.Tests.{by-test}
use Rattle.octets.specs.Numbers.{Octets, octet, word16}
use Rattle.octets.proofs.Words.{last_two}
use Rattle.octets.proofs.Octets.{octets_tested}
use Rattle.checks.specs.Verdict.{is_accepted, number_of}
use Rattle.crc.proofs.Division.{crc_is_division}
use Rattle.iso.specs.Checksum.{iso_of}
use Rattle.iso.specs.Closing.{total, weighted, BothZero, Closes}
use Rattle.iso.proofs.Closing.{iso_closes, no_other}
use Rattle.tc.specs.declared.Method.{Method}
use Rattle.tc.specs.declared.Method.TheVariants.{Iso, Crc}
use Rattle.tc.specs.Layout.{method_of, value_by, covered, fields_of}
use Rattle.tc.proofs.Laying.{control_method}
use Rattle.heading.specs.Heading.{length_right, header_fault}
use Rattle.heading.proofs.Lengths.{length_least}
use Rattle.reader.specs.Reader.{control_right, judged, reading_of}
use Rattle.reader.proofs.Judged.{control_right_lem, control_is, judged_control, judged-header, judged-accepted}
use Rattle.terminal.specs.Outcome.{verdict_on}
use Rattle.demands.specs.Packets.{Reader, reference_reader}
use Rattle.demands.specs.Refusing.{Given}
use Rattle.demands.specs.Cases.{from, line_input}
use Rattle.demands.specs.Listing.{told}
use Rattle.demands.specs.Methods.{Summed, RightBy, Right, ByMethod, IgnoresFlag, LetsZeroPass, connection, packets, verdicts}
use Rattle.demands.proofs.Computing.{all}

-- ---- what is right, and the value of a method

module _ (p : List ℕ) (h : 2 ≤ length p) where
  -- The two octets at a packet's end, behind the others, are the packet.
  whole : covered p ++ octet p (length p - 2) ∷ octet p (length p - 2 + 1) ∷ [] ≡ p
  whole = ap (λ (r : List ℕ). covered p ++ r) (sym (last_two p h)) ∙ take-append-drop (length p - 2) p

  value_right : (m : Method) → Octets p → word16 p (length p - 2) ≡ value_by m (covered p) → RightBy m p
  value_right Iso o e =
      let n : ℕ = length p - 2 in
      let a : iso_of (covered p) / 256 ≡ octet p n = ap (λ (x : ℕ). x / 256) (sym e) ∙ omega (arith, o n, o (n + 1)) in
      let b : iso_of (covered p) % 256 ≡ octet p (n + 1) = ap (λ (x : ℕ). x % 256) (sym e) ∙ omega (arith, o n, o (n + 1)) in
      let c : Closes (covered p) (octet p n) (octet p (n + 1)) = rw (a, b) at (iso_closes (covered p)) in
      record { first = c.first; second = c.second; sums = rw whole at c.sums }
  value_right Crc o e = e ∙ crc_is_division (covered p)

  right_value : (m : Method) → RightBy m p → word16 p (length p - 2) ≡ value_by m (covered p)
  right_value Iso r =
      let sums : BothZero (covered p ++ octet p (length p - 2) ∷ octet p (length p - 2 + 1) ∷ []) = rw whole r.sums in
      no_other (covered p) (octet p (length p - 2)) (octet p (length p - 2 + 1)) (record { first = r.first; second = r.second; sums = sums })
  right_value Crc r = r ∙ sym (crc_is_division (covered p))

-- ---- the reader

module _ (p : List ℕ) (l : length_right p ≡ true) where
  least : 12 ≤ length p
  least = length_least p l

  right_passes : Right p → control_right p ≡ true
  right_passes r =
      control_right_lem p (right_value p (omega (arith, least)) (method_of (fields_of p).checksum) r ∙ sym (control_method (fields_of p) (covered p)))

  passes_right : Octets p → control_right p ≡ true → Right p
  passes_right o t =
      value_right p (omega (arith, least)) (method_of (fields_of p).checksum) o (control_is p t ∙ control_method (fields_of p) (covered p))

  -- What passes check 2 is not refused by it.
  not_given : control_right p ≡ true → Given 2 (judged p) → ⊥
  not_given t g =
      by-test (eqb (header_fault p) 0)
      (λ f. false≢true (sym g.0 ∙ ap is_accepted (judged-accepted p (omega (arith, least)) l t f)))
      (λ f. omega (arith, sym g.1 ∙ ap number_of (judged-header p (omega (arith, least)) l t f)))

  given : control_right p ≡ false → Given 2 (judged p)
  given f =
      let e = judged_control p (omega (arith, least)) l f in
      (ap is_accepted e, ap number_of e)

-- The reader meets the rule. Ruled out: one that minds no flag, and one that lets a 00 pass for FF.
pub reader_by_method : ByMethod reference_reader
unfolding reading_of
reader_by_method = record {
  only = λ p o l r g. not_given p l (right_passes p l r) g;
  else_right = λ p o l g. by-test (control_right p) (λ t. passes_right p l o t) (λ f. absurd (g (given p l f)));
}

-- ---- wrong readers

-- The packet that the CRC alone refuses.
pub ignoring_flag_fails : (read : Reader) → IgnoresFlag read → ByMethod read → ⊥
unfolding all total weighted
ignoring_flag_fails read ignores by =
    let p : List ℕ = connection 0 0x02 0xA8 in
    let o : Octets p = octets_tested p refl in
    let r : Right p = record { first = (omega arith, omega arith); second = (omega arith, omega arith); sums = (refl, refl) } in
    omega (arith, ignores p refl (by.only p o refl r))

-- The packet whose sums are 0 with a 00 in the place of an FF.
pub zero_passing_fails : (read : Reader) → LetsZeroPass read → ByMethod read → ⊥
unfolding all total weighted
zero_passing_fails read lets by =
    let p : List ℕ = connection 64 0x00 0x6A in
    let o : Octets p = octets_tested p refl in
    let r : Summed p = by.else_right p o refl (lets p refl (refl, refl)) in
    omega (arith, r.first.0)

-- ---- examples

-- Ruled out: any definition that gives another verdict or detail on one of them.
pub methods_hold : map (λ (p : List ℕ). told (verdict_on (line_input (from 0 0) p))) packets ≡ verdicts
unfolding all
methods_hold = refl
