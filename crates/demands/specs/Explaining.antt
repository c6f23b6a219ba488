-- Document 02, wish 5, of anything that explains: "Proved: that check fails by 01's rule and every earlier one holds." What is wrong is said of the octets that are shown.
use Rattle.std.specs.Prelude.{◌≡◌, true, false, cond, List, [], ◌∷◌, ◌++◌, ℕ, ◌+◌, ◌*◌, ◌/◌, ◌%◌, ◌≤◌, ◌<◌, length, replicate, eqb, Some, None, Ok, Err, Option}
use Rattle.octets.specs.Numbers.{Octets, octet, word16, word32, octets16}
use Rattle.octets.specs.Copy.{between}
use Rattle.fields.specs.Fields.{apid_of}
use Rattle.crc.specs.Register.{crc_of}
use Rattle.checks.specs.declared.Check.{Check}
use Rattle.checks.specs.declared.Check.TheVariants.{Buffer, Caller, Short, Length, Control, Header, Apid, Service, Subtype, Form, Memory, Right, Outside}
use Rattle.checks.specs.declared.Refusal.{Refusal}
use Rattle.checks.specs.Verdict.{Verdict}
use Rattle.checks.specs.Table.{Row, First, AllHold}
use Rattle.checks.specs.Verdict.{check_number}
use Rattle.tc.specs.Layout.{around, packet_most, category, covered, right_control, fields_of, application_of}
use Rattle.heading.specs.Heading.{header_fault}
use Rattle.reader.specs.Reader.{least_octets}
use Rattle.map.specs.declared.Area.{Area}
use Rattle.map.specs.declared.Profile.{Profile}
use Rattle.map.specs.Place.{used, find_in, inside}
use Rattle.requests.specs.declared.Request.TheVariants.{Memory as Asks, Connection}
use Rattle.requests.specs.declared.Action.{Action}
use Rattle.requests.specs.declared.Request.{Request}
use Rattle.requests.specs.Request.{serves, asked_for, offers, right_for, inside_of}
use Rattle.serving.specs.Services.{Formed}
use Rattle.addressing.specs.Requested.{asked_by}
use Rattle.decide.specs.Table.{packet_rows}
use Rattle.decide.specs.Octets.{block_numbered, octets_of}
use Rattle.explaining.specs.declared.Reason.{Reason}
use Rattle.explaining.specs.Explanation.{Explanation}
use Rattle.explaining.specs.Explanation.{explanation_of}
use Rattle.demands.specs.Cases.{command, block, first_line, second_line}

-- ---- what is wrong with the octets shown

-- 1: with the length field that they are, the packet is not so long as the field plus 7, or too short or too long.
abbrev pub NotSoLong : ℕ → List ℕ → Type 0
NotSoLong count s = around ≤ count → count ≤ packet_most → count ≡ word16 s 0 + 7 → ⊥

-- 16: the field that its detail names, 1 to 5, in the octet where it stands: version, type bit, header flag, sequence flags, PUS version; and the value that it has to have.
abbrev pub bits_in : ℕ → ℕ → ℕ
bits_in detail x =
    cond (eqb detail 1) (x / 32)
    (cond (eqb detail 2) (x / 16 % 2)
    (cond (eqb detail 3) (x / 8 % 2)
    (cond (eqb detail 4) (x / 64) (x / 32))))

abbrev pub right_bits : ℕ → ℕ
right_bits detail = cond (eqb detail 1) 0 (cond (eqb detail 4) 3 (cond (eqb detail 5) 0 1))

-- 5: they are not the application data of what is asked for.
abbrev pub NotFormed : Option Request → List ℕ → Type 0
NotFormed (Some (Asks action)) s = Formed action s → ⊥
NotFormed (Some Connection) s = s ≡ [] → ⊥
NotFormed None s = ⊥

-- 18: the area with the memory ID that they are lacks the right for what is asked.
pub record Lacks (p : Profile) (asked : Option Request) (id : ℕ) : Type 0 where
  pub area : Area
  pub named : find_in id (used p) ≡ Some area
  pub action : Action
  pub asks : asked ≡ Some (Asks action)
  pub lacks : right_for area.rights action ≡ false

-- 19: the block whose start and length they are is not wholly inside the area that the packet names, and every block before it is.
pub record NotInside (p : Profile) (packet : List ℕ) (number : ℕ) (s : List ℕ) : Type 0 where
  pub area : Area
  pub named : find_in (octet packet 10) (used p) ≡ Some area
  pub start : word32 s 0 ≡ (block_numbered packet number).start
  pub words : word16 s 4 ≡ (block_numbered packet number).words
  pub outside : inside area (word32 s 0) (word16 s 4) ≡ false
  pub before : (k : ℕ) → 1 ≤ k → k < number → inside_of area (block_numbered packet k) ≡ true

-- What is wrong with the octets that a check looks at, by its detail where it has several. Of 42 there may be none to show; 40 and 41 are not made of a packet.
abbrev pub Wrong : Profile → List ℕ → Check → ℕ → List ℕ → Type 0
Wrong p packet Buffer detail s = ⊥
Wrong p packet Caller detail s = ⊥
Wrong p packet Short detail s = length packet < least_octets
Wrong p packet Length detail s = NotSoLong (length packet) s
Wrong p packet Control detail s = (packet ≡ covered packet ++ s) × (detail ≡ right_control packet) × (s ≡ octets16 detail → ⊥)
Wrong p packet Header detail s = bits_in detail (octet s 0) ≡ right_bits detail → ⊥
Wrong p packet Apid detail s = (detail ≡ word16 s 0 % 2048) × (detail ≡ apid_of p.pid category → ⊥)
Wrong p packet Service detail s = (detail ≡ octet s 0) × (serves p.flags detail ≡ false)
Wrong p packet Subtype detail s = (detail ≡ word16 s 0) × (offers p.flags (asked_for (octet s 0) (octet s 1)) ≡ false)
Wrong p packet Form detail s = (s ≡ application_of packet) × NotFormed (asked_by (fields_of packet)) s
Wrong p packet Memory detail s = (detail ≡ octet s 0) × (find_in detail (used p) ≡ None)
Wrong p packet Right detail s = (detail ≡ octet s 0) × Lacks p (asked_by (fields_of packet)) detail
Wrong p packet Outside detail s = NotInside p packet detail s

-- ---- the demand

-- Anything that explains: what it says of a packet under a profile.
abbrev pub Explainer : Type 0
Explainer = Profile → List ℕ → Explanation

-- The one of document 02; the contract of `explaining::explain` permits no other answer.
abbrev pub reference_explainer : Explainer
reference_explainer = explanation_of

-- The octets that a reason shows.
abbrev pub shown : List ℕ → Reason → List ℕ
shown packet e = between e.first (e.last + 1) packet

-- A reason tells why: a check fails and every earlier one holds, number and detail are its own, so are the offsets, and what stands there is what is wrong.
pub record Tells (p : Profile) (packet : List ℕ) (e : Reason) : Type 0 where
  pub check : Row Refusal
  pub fails : First (packet_rows p packet) check
  pub number : e.number ≡ check_number check.refusal.check
  pub detail : e.detail ≡ check.refusal.detail
  pub offsets : record { from = e.first; to = e.last + 1 } ≡ octets_of packet check.refusal
  pub wrong : Wrong p packet check.refusal.check check.refusal.detail (shown packet e)

-- The demand: whatever is said of a packet is so.
pub record Explains (f : Explainer) : Type 0 where
  pub accepted : (p : Profile) (packet : List ℕ) → Octets packet → f p packet ≡ Ok tt → AllHold (packet_rows p packet)
  pub refused : (p : Profile) (packet : List ℕ) → Octets packet → (e : Reason) → f p packet ≡ Err e → Tells p packet e

-- What is said of a packet and a verdict on it have the same number and detail.
abbrev pub AgreesWith : Explanation → Verdict → Type 0
AgreesWith (Ok _) (Ok _) = Unit
AgreesWith (Ok _) (Err r) = ⊥
AgreesWith (Err e) (Ok _) = ⊥
AgreesWith (Err e) (Err r) = (e.number ≡ check_number r.check) × (e.detail ≡ r.detail)

-- ---- wrong explainers

-- Says the same of every packet: that it is accepted, or that one check refuses it.
abbrev pub SaysTheSame : Explanation → Explainer → Type 0
SaysTheSame e f = (p : Profile) (packet : List ℕ) → f p packet ≡ e

-- Shows for 19 the first block, whichever is outside.
abbrev pub ShowsFirstBlock : Explainer → Type 0
ShowsFirstBlock f = (p : Profile) (packet : List ℕ) (e : Reason) → f p packet ≡ Err e → e.number ≡ 19 → e.first ≡ 12

-- Takes each block for 6 octets, as those of a dump are, whatever words stand behind it.
abbrev pub SkipsNoWords : Explainer → Type 0
SkipsNoWords f = (p : Profile) (packet : List ℕ) (e : Reason) → f p packet ≡ Err e → e.number ≡ 19 → e.first ≡ 6 + 6 * e.detail

-- Looks at the header before the error control, so that a packet that is wrong in both is told 16.
abbrev pub HeaderFirst : Explainer → Type 0
HeaderFirst f = (p : Profile) (packet : List ℕ) (e : Reason) → f p packet ≡ Err e → e.number ≡ 2 → header_fault packet ≡ 0

-- ---- examples

-- A packet of ten octets and their CRC: a connection test but for its first octet, the second, the third and the seventh.
abbrev pub headed : ℕ → ℕ → ℕ → ℕ → List ℕ
headed id apid flags pus =
    let head : List ℕ = id ∷ apid ∷ flags ∷ 0x00 ∷ 0x00 ∷ 0x05 ∷ pus ∷ 0x11 ∷ 0x01 ∷ 0x00 ∷ [] in
    head ++ octets16 (crc_of head)

-- A load of two blocks: two words at 1000 hex, where the line program's area begins, and one word at 2000 hex, outside.
abbrev pub second_outside : List ℕ
second_outside = command 6 2 (1 ∷ 2 ∷ (block 0x1000 2 ++ (0xAB ∷ 0xCD ∷ 0x14 ∷ 0x56 ∷ []) ++ block 0x2000 1 ++ (0x00 ∷ 0x01 ∷ [])))

-- Packets under the line program's profile: one for each check, of 16 for each detail, of 5 without data, with a block at fault and of service 17, of 19 in a check and in a load; and the first line of document 01's example, which is accepted.
abbrev pub explained_packets : List (List ℕ)
explained_packets =
    []
    ∷ replicate 6 0
    ∷ second_line
    ∷ headed 0x38 0x5C 0xC0 0x19
    ∷ headed 0x08 0x5C 0xC0 0x19
    ∷ headed 0x10 0x5C 0xC0 0x19
    ∷ headed 0x18 0x5C 0x80 0x19
    ∷ headed 0x18 0x5C 0xC0 0x39
    ∷ headed 0x18 0x6C 0xC0 0x19
    ∷ command 5 1 []
    ∷ command 6 3 []
    ∷ command 6 5 []
    ∷ command 6 5 (1 ∷ 2 ∷ (block 0x1000 1 ++ block 0x1000 0))
    ∷ command 17 1 (7 ∷ [])
    ∷ command 6 5 (9 ∷ 1 ∷ block 0x1000 1)
    ∷ command 6 9 (1 ∷ 3 ∷ (block 0x1000 1 ++ block 0x1050 1 ++ block 0x1090 1))
    ∷ second_outside
    ∷ first_line
    ∷ []

-- What is said of each: number, detail, first and last offset; nothing of one that is accepted.
abbrev pub reasons : List (List ℕ)
reasons =
    (42 ∷ 0 ∷ 0 ∷ 0 ∷ [])
    ∷ (1 ∷ 6 ∷ 4 ∷ 5 ∷ [])
    ∷ (2 ∷ 0x0167 ∷ 10 ∷ 11 ∷ [])
    ∷ (16 ∷ 1 ∷ 0 ∷ 0 ∷ [])
    ∷ (16 ∷ 2 ∷ 0 ∷ 0 ∷ [])
    ∷ (16 ∷ 3 ∷ 0 ∷ 0 ∷ [])
    ∷ (16 ∷ 4 ∷ 2 ∷ 2 ∷ [])
    ∷ (16 ∷ 5 ∷ 6 ∷ 6 ∷ [])
    ∷ (0 ∷ 0x006C ∷ 0 ∷ 1 ∷ [])
    ∷ (3 ∷ 5 ∷ 7 ∷ 7 ∷ [])
    ∷ (4 ∷ 0x0603 ∷ 7 ∷ 8 ∷ [])
    ∷ (5 ∷ 0 ∷ 10 ∷ 9 ∷ [])
    ∷ (5 ∷ 2 ∷ 10 ∷ 23 ∷ [])
    ∷ (5 ∷ 0 ∷ 10 ∷ 10 ∷ [])
    ∷ (17 ∷ 9 ∷ 10 ∷ 10 ∷ [])
    ∷ (19 ∷ 2 ∷ 18 ∷ 23 ∷ [])
    ∷ (19 ∷ 2 ∷ 22 ∷ 27 ∷ [])
    ∷ []
    ∷ []

-- A packet whose version and whose error control are both wrong.
abbrev pub wrong_in_both : List ℕ
wrong_in_both = 0x38 ∷ 0x5C ∷ 0xC0 ∷ 0x00 ∷ 0x00 ∷ 0x05 ∷ 0x19 ∷ 0x11 ∷ 0x01 ∷ 0x00 ∷ 0x00 ∷ 0x00 ∷ []

-- What is said, as numbers.
abbrev pub numbers_in : Explanation → List ℕ
numbers_in (Ok _) = []
numbers_in (Err e) = e.number ∷ e.detail ∷ e.first ∷ e.last ∷ []
