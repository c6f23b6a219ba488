-- The decision on the whole table, part by part.
-- Assumes nothing.
use Rattle.std.specs.Prelude.{Ok, Err}
use mathlib.Core.Path.{◌≡◌, refl, sym, ap, ◌∙◌}
use mathlib.Core.Bool.{true, false}
use mathlib.Core.List.{List, ◌∷◌}
use Prim.Native.Nat.{ℕ, ◌≤◌, ◌<◌}
use lib.Dec.{leb}
use borrow.Author.Tests.{le-leb, lt-leb}
use Rattle.octets.specs.Copy.{placed}
use Rattle.checks.specs.declared.Check.TheVariants.{Buffer, Caller}
use Rattle.checks.specs.declared.Refusal.{Refusal}
use Rattle.checks.specs.Table.{answer}
use Rattle.checks.specs.Verdict.{is_accepted, row, verdict_by}
use Rattle.checks.proofs.Table.{answer-append}
use Rattle.tc.specs.Layout.{fields_of, data_span, application_of}
use Rattle.reader.specs.declared.Reading.{Reading}
use Rattle.reader.specs.Reader.{reader_rows, judged, reading_of}
use Rattle.map.specs.declared.Profile.{Profile}
use Rattle.decide.specs.declared.State.{State}
use Rattle.serving.specs.Decision.{Decision, verdict_of, decided_by}
use Rattle.decide.specs.Table.{out_least, caller_right, caller_rows, packet_rows, rows, decided, accepting, packet_decision, decision_of}
use Rattle.addressing.specs.Requested.{request_rows, request_decision}
use Rattle.serving.proofs.Rows.{failing, refuses, passes, rows_refuse, rows_accept, decision_verdict}

-- ---- the checks on the packet itself

module _ (p : Profile) (packet : List ℕ) where
  -- What the request decides, where the reader accepts.
  abbrev requested : Decision
  requested = request_decision p (fields_of packet) (data_span packet) (application_of packet)

  parted : packet_decision p packet ≡ answer requested Err (reader_rows packet)
  unfolding packet_decision
  parted = answer-append (Ok (accepting p packet)) Err (reader_rows packet) (request_rows p (fields_of packet) (application_of packet))

  -- The verdict of the decision.
  pub packet_verdict : verdict_of (packet_decision p packet) ≡ verdict_by (packet_rows p packet)
  unfolding packet_decision
  packet_verdict = decision_verdict (accepting p packet) (packet_rows p packet)

  -- The reader refuses.
  pub at_reader : (reading : Reading) (r : Refusal) → reading ≡ reading_of packet → reading.verdict ≡ Err r → packet_decision p packet ≡ Err r
  unfolding reading_of judged
  at_reader reading r read refused =
      parted ∙ rows_refuse requested (reader_rows packet) r (sym (ap (λ (x : Reading). x.verdict) read) ∙ refused)

  -- The reader accepts, and the request decides.
  pub at_request : (reading : Reading) (d : Decision) {u : Unit} → reading ≡ reading_of packet → reading.verdict ≡ Ok u
      → d ≡ request_decision p reading.fields reading.«data» (placed reading.«data» packet)
      → d ≡ packet_decision p packet
  unfolding reading_of judged application_of
  at_request reading d read accepted decided =
      let fine : is_accepted (judged packet) ≡ true = ap (λ (r : Reading). is_accepted r.verdict) (sym read) ∙ ap is_accepted accepted in
      let fields : reading.fields ≡ fields_of packet = ap (λ (r : Reading). r.fields) read ∙ rw fine refl in
      let span : reading.«data» ≡ data_span packet = ap (λ (r : Reading). r.«data») read ∙ rw fine refl in
      (rw (fields, span) at decided) ∙ sym (parted ∙ rows_accept requested (reader_rows packet) fine)

-- ---- the whole table

module _ (p : Profile) (state : State) (store out : ℕ) (packet : List ℕ) where
  -- The verdict of the decision.
  pub decision_decided : verdict_of (decision_of p state store out packet) ≡ decided p state store out packet
  unfolding decision_of decided
  decision_decided = decision_verdict (accepting p packet) (rows p state store out packet)

  -- An accepted packet's decision has its work.
  pub decision_accepted : is_accepted (decided p state store out packet) ≡ true → decision_of p state store out packet ≡ Ok (accepting p packet)
  unfolding decision_of decided
  decision_accepted h = rows_accept (Ok (accepting p packet)) (rows p state store out packet) h

  pub at_buffer : out < out_least → decision_of p state store out packet ≡ failing Buffer 0
  unfolding decision_of rows caller_rows
  at_buffer short =
      refuses (Ok (accepting p packet)) Buffer 0 (leb out_least out) (row Caller 0 (caller_right p state store) ∷ packet_rows p packet) (lt-leb out_least out short)

  module _ (room : out_least ≤ out) where
    past_buffer : decision_of p state store out packet ≡ decided_by (accepting p packet) (row Caller 0 (caller_right p state store) ∷ packet_rows p packet)
    unfolding decision_of rows caller_rows
    past_buffer =
        passes (Ok (accepting p packet)) Buffer 0 (leb out_least out) (row Caller 0 (caller_right p state store) ∷ packet_rows p packet) (le-leb out_least out room)

    pub at_caller : caller_right p state store ≡ false → decision_of p state store out packet ≡ failing Caller 0
    at_caller wrong = past_buffer ∙ refuses (Ok (accepting p packet)) Caller 0 (caller_right p state store) (packet_rows p packet) wrong

    -- Past 40 and 41 the packet itself decides.
    pub at_packet : caller_right p state store ≡ true → decision_of p state store out packet ≡ packet_decision p packet
    unfolding packet_decision
    at_packet right = past_buffer ∙ passes (Ok (accepting p packet)) Caller 0 (caller_right p state store) (packet_rows p packet) right
