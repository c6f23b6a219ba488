-- Frames are octets where what is reported is.
-- Assumes nothing.
use mathlib.Core.List.{List, [], ◌∷◌, ◌++◌}
use Prim.Native.Nat.{ℕ, ◌+◌, ◌-◌, ◌%◌, ◌<◌}
use native.Mathlib.Omega.{arith}
use lib.ListN.{length}
use Rattle.laws.specs.Each.{Each}
use Rattle.octets.specs.Numbers.{Octets, octets16}
use Rattle.octets.proofs.Octets.{octets_of, append_octets, octets16_octets}
use Rattle.fields.specs.Fields.{id_of, control_of, apid_of}
use Rattle.counts.specs.declared.Counts.{Counts}
use Rattle.counts.specs.Counts.{category_of, count_for, counted}
use Rattle.tm.specs.declared.Stamp.{Stamp}
use Rattle.tm.specs.Frame.{frame_head, uncounted, time_of, head_of, frame_of, Report, stamped, frames_of}

-- A report whose type, subtype and source data are octets.
pub record Sendable (r : Report) : Type 0 where
  pub kind : r.kind < 256
  pub subtype : r.subtype < 256
  pub source : Octets r.source

-- What the frame of every report with a property has, each frame of such reports has.
pub frames_each : (P : Report → Type 0) (Q : List ℕ → Type 0) (pid : ℕ) (time : List ℕ) → ((c : Counts) (r : Report) → P r → Q (stamped pid time c r))
    → (c : Counts) (rs : List Report) → Each P rs → Each Q (frames_of pid time c rs)
unfolding frames_of
frames_each P Q pid time so c [] h = tt
frames_each P Q pid time so c (r ∷ rest) h = (so c r h.0, frames_each P Q pid time so (counted c r.kind) rest h.1)

-- Every field of a head has the bits that it has room for.
head_octets : (s : Stamp) (n : ℕ) → Octets s.time → s.kind < 256 → s.subtype < 256 → Octets (head_of s n)
unfolding head_of
head_octets s n time kind subtype =
    let id : List ℕ = octets16 (id_of (record { version = 0; kind = 0; header = 1; apid = apid_of s.pid (category_of s.kind) })) in
    let control : List ℕ = octets16 (control_of (record { flags = 3; count = s.count })) in
    let size : List ℕ = octets16 ((n + frame_head - uncounted) % 65536) in
    let last : List ℕ = 0 ∷ s.kind ∷ s.subtype ∷ 0 ∷ [] in
    append_octets (id ++ control ++ size ++ s.time) last
    (append_octets (id ++ control ++ size) s.time
    (append_octets (id ++ control) size
    (append_octets id control (octets16_octets _ (omega arith)) (octets16_octets _ (omega arith)))
    (octets16_octets _ (omega arith)))
    time)
    (octets_of last (omega arith, (kind, (subtype, (omega arith, tt)))))

-- The frame of a report that can be sent is octets, whatever the PID and the counts.
pub stamped_octets : (pid : ℕ) (time : List ℕ) → Octets time → (c : Counts) (r : Report) → Sendable r → Octets (stamped pid time c r)
unfolding stamped frame_of
stamped_octets pid time h c r s =
    let stamp : Stamp = record { pid = pid; count = count_for c r.kind; time = time; kind = r.kind; subtype = r.subtype } in
    append_octets (head_of stamp (length r.source)) r.source (head_octets stamp (length r.source) h s.kind s.subtype) s.source

-- A time of octets stays one.
pub time_octets : (time : List ℕ) → Octets time → Octets (time_of time)
time_octets time h = octets_of (time_of time) (h 0, (h 1, (h 2, (h 3, (h 4, (h 5, tt))))))
