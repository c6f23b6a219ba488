-- Document 02, wish 5: "the first and last offset of its octets": the part of a packet that each check of the table looks at.
use Rattle.std.specs.Prelude.{cond, List, ℕ, ◌+◌, ◌-◌, length, leb, eqb, Some, None, Option}
use Rattle.octets.specs.declared.copy.Span.{Span}
use Rattle.octets.specs.Copy.{nowhere}
use Rattle.checks.specs.declared.Check.{Check}
use Rattle.checks.specs.declared.Check.TheVariants.{Buffer, Caller, Short, Length, Control, Header, Apid, Service, Subtype, Form, Memory, Right, Outside}
use Rattle.checks.specs.declared.Refusal.{Refusal}
use Rattle.tc.specs.Layout.{head_size, fields_of, data_span, application_of}
use Rattle.blocks.specs.declared.Block.{Block}
use Rattle.blocks.specs.Blocks.{header_size, block_behind}
use Rattle.requests.specs.declared.Request.TheVariants.{Memory as Asks, Connection}
use Rattle.requests.specs.declared.Request.{Request}
use Rattle.requests.specs.Request.{carried_by}
use Rattle.addressing.specs.Requested.{asked_by}

-- So many octets from a place on.
abbrev pub octets_at : ℕ → ℕ → Span
octets_at place count = record { from = place; to = place + count }

-- Where the length field stands, the type, and the subtype behind it.
abbrev pub length_place : ℕ
length_place = 4

abbrev pub type_place : ℕ
type_place = 7

-- 16, by its detail: version, type bit and header flag stand in octet 0, the sequence flags in octet 2, the PUS version in octet 6.
abbrev pub header_place : ℕ → ℕ
header_place detail = cond (leb detail 3) 0 (cond (eqb detail 4) 2 6)

-- How many octets of the application data a word of a block is, by what a packet asks for; only service 6 has blocks.
abbrev pub carried_for : Option Request → ℕ
carried_for (Some (Asks action)) = carried_by action
carried_for (Some Connection) = 0
carried_for None = 0

-- The block of a packet with that number, from 1.
abbrev pub block_numbered : List ℕ → ℕ → Block
block_numbered p number = block_behind (carried_for (asked_by (fields_of p))) (application_of p) (number - 1)

-- 19: start and length of the block that its detail numbers, wherever the block stands.
unfoldable pub block_octets : List ℕ → ℕ → Span
block_octets p detail = octets_at (head_size + (block_numbered p detail).at) header_size

-- The octets that a check looks at. 40 and 41 look at none; of a packet of fewer than 6 octets the first is named.
abbrev pub octets_for : List ℕ → Check → ℕ → Span
octets_for p Buffer detail = nowhere
octets_for p Caller detail = nowhere
octets_for p Short detail = octets_at 0 1
octets_for p Length detail = octets_at length_place 2
octets_for p Control detail = record { from = length p - 2; to = length p }
octets_for p Header detail = octets_at (header_place detail) 1
octets_for p Apid detail = octets_at 0 2
octets_for p Service detail = octets_at type_place 1
octets_for p Subtype detail = octets_at type_place 2
octets_for p Form detail = data_span p
octets_for p Memory detail = octets_at head_size 1
octets_for p Right detail = octets_at head_size 1
octets_for p Outside detail = block_octets p detail

-- Those of the check that refused a packet.
unfoldable pub octets_of : List ℕ → Refusal → Span
octets_of p r = octets_for p r.check r.detail
