-- Reports laid: none, and one.
-- Assumes nothing.
use Rattle.std.proofs.Common.{◌≡◌, ℕ, ◌+◌, ◌%◌, ◌<◌, Bool, true, false, List, [], ◌∷◌, length, sym, refl, ap, ◌∙◌, ap₂, arith}
use Rattle.laws.specs.Fold.{joined}
use Rattle.octets.specs.Copy.{laid}
use Rattle.octets.proofs.Laid.{laid_none}
use Rattle.tm.specs.declared.Stamp.{Stamp}
use Rattle.counts.specs.Counts.{counted}
use Rattle.tm.specs.Frame.{frame_of, Report, stamped, frames_of, counts_after, LaysFrame}
use Rattle.tm.proofs.Frames.{one_frame}
use Rattle.laying.specs.declared.Sender.{Sender}
use Rattle.laying.specs.declared.Progress.{Progress}
use Rattle.laying.specs.Reports.{asked}
use Rattle.laying.specs.Lays.{stamp_for, octets_for, Lays}

module _ (sender : Sender) where
  -- Nothing laid.
  pub lays_none : (p : Progress) (out : List ℕ) → p.at < 65536 → Lays sender p p out out []
  unfolding frames_of counts_after joined
  lays_none p out small = record { at_is = omega arith; counts_is = refl; out_is = sym (laid_none out p.at) }

  -- One report laid.
  pub lays_one : (p q : Progress) (out out' : List ℕ) (r : Report) (n : ℕ)
      → n ≡ length (stamped sender.pid sender.time p.counts r)
      → (q.at ≡ (p.at + n) % 65536) × (q.counts ≡ counted p.counts r.kind)
      → out' ≡ laid out p.at (stamped sender.pid sender.time p.counts r)
      → Lays sender p q out out' (r ∷ [])
  unfolding counts_after
  lays_one p q out out' r n size after there =
      let frame : octets_for sender p.counts (r ∷ []) ≡ stamped sender.pid sender.time p.counts r =
      one_frame sender.pid sender.time p.counts r in
      record {
        at_is = after.0 ∙ ap (λ (m : ℕ). (p.at + m) % 65536) (size ∙ ap length (sym frame));
        counts_is = after.1;
        out_is = there ∙ ap (λ (f : List ℕ). laid out p.at f) (sym frame);
      }

  -- One report laid, as a frame with the stamp for it.
  pub lays_frame : (p q : Progress) (out out' : List ℕ) (r : Report) (s : Stamp) (source : List ℕ) {n : ℕ}
      → s ≡ stamp_for sender p.counts r.kind r.subtype → source ≡ r.source → LaysFrame (frame_of s source) p.at out n out'
      → (q.at ≡ (p.at + n) % 65536) × (q.counts ≡ counted p.counts r.kind)
      → Lays sender p q out out' (r ∷ [])
  unfolding stamped
  lays_frame p q out out' r s source {n = n} stamp same lays after =
      let frame : frame_of s source ≡ stamped sender.pid sender.time p.counts r = ap₂ frame_of stamp same in
      lays_one p q out out' r n (lays.length_is ∙ ap length frame) after (lays.out_is ∙ ap (λ (f : List ℕ). laid out p.at f) frame)

  -- A report that is not asked for, and one that is.
  pub not_asked : (p : Progress) (out : List ℕ) (asks : Bool) (r : Report) → asks ≡ false → p.at < 65536 → Lays sender p p out out (asked asks r)
  not_asked p out asks r e small = rw e (lays_none p out small)

  pub is_asked : (p q : Progress) (out out' : List ℕ) (asks : Bool) (r : Report) → asks ≡ true
      → Lays sender p q out out' (r ∷ []) → Lays sender p q out out' (asked asks r)
  is_asked p q out out' asks r e d = rw e d
