-- The line of a frame, by what the reader returns: of one of which nothing is told, and of one that tells something.
-- Assumes nothing.
use Rattle.std.specs.Prelude.{Option, Some, None, is_some}
use mathlib.Core.Path.{◌≡◌, refl, sym, ap, ◌∙◌}
use mathlib.Core.Bool.{true, false}
use mathlib.Core.List.{List, [], ◌∷◌, ◌++◌}
use Prim.Native.Nat.{ℕ}
use Rattle.laws.proofs.Tests.{by-test}
use Rattle.lines.specs.Lines.{newline}
use Rattle.contents.specs.declared.Contents.{Contents}
use Rattle.contents.specs.declared.Kind.{Kind}
use Rattle.contents.specs.Source.{formed_if, contents_if}
use Rattle.contents.specs.Told.{told_by, told_if}
use Rattle.tmreader.specs.declared.Reading.{Reading}
use Rattle.tmreader.specs.Reader.{is_clean, judged, kind_in, source_in, reading_of}
use Rattle.tmreader.proofs.Judged.{clean_source}
use Rattle.toldtext.specs.Told.{told_text}
use Rattle.frametext.specs.Text.{stamp_text, refused_text, frame_text}

-- Right source data tells something.
right_tells : (k : Option Kind) (s : List ℕ) → formed_if k s ≡ true → is_some (contents_if k s) ≡ true
right_tells (Some k) s h = refl
right_tells None s h = h

-- So a frame tells something exactly where it reads cleanly.
tells_clean : (f : List ℕ) → is_some (reading_of f).contents ≡ is_clean (judged f)
unfolding reading_of
tells_clean f =
    by-test (is_clean (judged f))
    (λ t. rw t (right_tells (kind_in f) (source_in f) (clean_source f t)))
    (λ e. rw e refl)

module _ (f : List ℕ) {r : Reading} (reads : r ≡ reading_of f) where
  clean_where : is_some r.contents ≡ is_clean (reading_of f).verdict
  unfolding reading_of
  clean_where = ap (λ (x : Reading). is_some x.contents) reads ∙ tells_clean f

  pub frame_refused : r.contents ≡ None → refused_text r.verdict ≡ frame_text f
  unfolding frame_text
  frame_refused e =
      let h : is_clean (reading_of f).verdict ≡ false = sym clean_where ∙ ap is_some e in
      rw h (ap (λ (x : Reading). refused_text x.verdict) reads)

  pub frame_clean : (c : Contents) → r.contents ≡ Some c → stamp_text r.stamp ++ (told_text (told_by f c) ++ newline ∷ []) ≡ frame_text f
  unfolding frame_text
  frame_clean c e =
      let h : is_clean (reading_of f).verdict ≡ true = sym clean_where ∙ ap is_some e in
      rw h
      (ap (λ (o : Option Contents). stamp_text r.stamp ++ (told_text (told_if f o) ++ newline ∷ [])) (sym e)
      ∙ ap (λ (x : Reading). stamp_text x.stamp ++ (told_text (told_if f x.contents) ++ newline ∷ [])) reads)
