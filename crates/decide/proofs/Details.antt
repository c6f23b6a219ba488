-- The detail of every verdict on a packet of octets is a number of 16 bits.
-- Assumes nothing.
use Rattle.std.specs.Prelude.{Some, None, Option}
use mathlib.Core.List.{List}
use Prim.Native.Nat.{ℕ, ◌<◌}
use native.Mathlib.Omega.{arith}
use Rattle.laws.specs.Each.{Each}
use Rattle.laws.proofs.Each.{each_append}
use Rattle.octets.specs.Numbers.{Octets}
use Rattle.checks.specs.declared.Refusal.{Refusal}
use Rattle.checks.specs.Table.{Row}
use Rattle.checks.specs.Verdict.{detail_of}
use Rattle.checks.proofs.Verdicts.{verdict_detail}
use Rattle.tc.specs.Layout.{fields_of, application_of}
use Rattle.reader.specs.Reader.{reader_rows}
use Rattle.reader.proofs.Details.{application_octets, FieldsSmall, fields_small, reader_details}
use Rattle.map.specs.declared.Profile.{Profile}
use Rattle.map.specs.declared.Area.{Area}
use Rattle.blocks.proofs.Octets.{form_small}
use Rattle.requests.specs.declared.Action.{Action}
use Rattle.requests.specs.declared.Request.TheVariants.{Memory, Connection}
use Rattle.requests.specs.declared.Request.{Request}
use Rattle.requests.specs.Request.{carried_by, most_words, area_named}
use Rattle.requests.proofs.Outside.{outside_small}
use Rattle.decide.specs.declared.State.{State}
use Rattle.decide.specs.Table.{caller_rows, rows, decided}
use Rattle.serving.specs.Services.{outside_number, area_rows, memory_rows, connection_rows}
use Rattle.addressing.specs.Requested.{service_rows, asked_by, request_rows}

-- The detail of a row has 16 bits.
abbrev Small : Row Refusal → Type 0
Small r = r.refusal.detail < 65536

module _ (d : List ℕ) (octets : Octets d) where
  number_small : (found : Option Area) (action : Action) → outside_number found action d < 65536
  number_small (Some a) action = outside_small a (carried_by action) d octets
  number_small None action = omega arith

  service_small : (p : Profile) (asked : Option Request) → Each Small (service_rows p asked d)
  unfolding memory_rows area_rows connection_rows
  service_small p (Some (Memory action)) =
      (omega arith, (form_small d octets (carried_by action) (most_words action), (omega (arith, octets 0), (omega (arith, octets 0), (number_small (area_named p d) action, tt)))))
  service_small p (Some Connection) = (omega arith, tt)
  service_small p None = tt

module _ (packet : List ℕ) (octets : Octets packet) where
  request_small : (p : Profile) → Each Small (request_rows p (fields_of packet) (application_of packet))
  unfolding request_rows
  request_small p =
      let small : FieldsSmall packet = fields_small packet octets in
      let service = service_small (application_of packet) (application_octets packet octets) p (asked_by (fields_of packet)) in
      (omega (arith, small.apid), (omega (arith, small.kind), (omega (arith, small.kind, small.subtype), service)))

  -- The detail of the verdict on a packet of octets is a number of 16 bits.
  pub detail_small : (p : Profile) (state : State) (store out : ℕ) → detail_of (decided p state store out packet) < 65536
  unfolding decided rows caller_rows
  detail_small p state store out =
      let read : List (Row Refusal) = reader_rows packet in
      let request : List (Row Refusal) = request_rows p (fields_of packet) (application_of packet) in
      verdict_detail (rows p state store out packet) (λ (n : ℕ). n < 65536) (omega arith)
      (omega arith, (omega arith, each_append Small read request (reader_details packet) (request_small p)))
