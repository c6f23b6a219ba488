-- Row by row: where a check of the table is the first that fails, what is wrong stands in the octets that it looks at.
-- Assumes nothing.
use Rattle.std.specs.Prelude.{Some, None, Option}
use mathlib.Core.Path.{◌≡◌, refl, sym, ap, ap₂, subst, ◌∙◌}
use mathlib.Core.Bool.{true, false, false≢true}
use mathlib.Core.List.{List, ◌++◌}
use Prim.Native.Nat.{ℕ, ◌+◌, ◌*◌, ◌-◌, ◌/◌, ◌%◌, min, ◌≤◌, ◌<◌}
use native.Mathlib.Nat.{add-zero}
use native.Mathlib.Omega.{arith}
use lib.ListN.{length, drop, take-append-drop, length-drop}
use lib.Seq.{take_all}
use lib.Dec.{leb, eqb}
use borrow.Author.Tests.{leb-true, leb-false, eq-eqb, eqb-false}
use Rattle.laws.proofs.Tests.{by-test}
use Rattle.octets.specs.Numbers.{Octets, octet, word16, word32}
use Rattle.octets.specs.Copy.{between, placed}
use Rattle.octets.proofs.Between.{between-eq, between-octet, between-word16, between-word32, between_most}
use Rattle.fields.specs.Fields.{apid_of}
use Rattle.checks.specs.declared.Check.TheVariants.{Short, Length, Control, Header as BadHeader, Apid, Service, Subtype, Form, Memory, Right, Outside}
use Rattle.checks.specs.declared.Refusal.{Refusal}
use Rattle.checks.specs.Table.{Row, First}
use Rattle.checks.specs.Verdict.{row}
use Rattle.checks.proofs.Table.{first_by, first-none}
use Rattle.tc.specs.declared.Fields.{Fields}
use Rattle.tc.specs.Layout.{category, covered, right_control, fields_of, application_of}
use Rattle.heading.specs.Heading.{length_right, header_fault}
use Rattle.heading.proofs.Lengths.{length_least, length_right_lem}
use Rattle.heading.proofs.Faults.{fault_by}
use Rattle.reader.specs.Reader.{least_octets, most_detail, control_right, reader_rows}
use Rattle.reader.proofs.Judged.{control_right_lem}
use Rattle.map.specs.declared.Area.{Area}
use Rattle.map.specs.declared.Profile.{Profile}
use Rattle.map.specs.Place.{used, find_in, inside}
use Rattle.blocks.specs.declared.Block.{Block}
use Rattle.blocks.specs.Blocks.{block_behind, blocks_of}
use Rattle.blocks.specs.Form.{head_right, form_of, is_right, form_detail}
use Rattle.blocks.proofs.Blocks.{Bounds}
use Rattle.blocks.proofs.WellFormed.{head_facts, right_bounds}
use Rattle.blocks.proofs.Behind.{Stopped, behind_fields}
use Rattle.requests.specs.declared.Action.{Action}
use Rattle.requests.specs.declared.Request.TheVariants.{Memory as Asks, Connection}
use Rattle.requests.specs.declared.Request.{Request}
use Rattle.requests.proofs.Found.{found_is, found_not}
use Rattle.requests.proofs.Outside.{outside_behind}
use Rattle.requests.specs.Request.{serves, asked_for, offers, carried_by, most_words, area_named, is_found, inside_of, outside_of}
use Rattle.serving.specs.Services.{has_right, outside_number, all_inside, area_rows, memory_rows, connection_rows}
use Rattle.addressing.specs.Requested.{service_rows, asked_by, request_rows}
use Rattle.decide.specs.Table.{packet_rows}
use Rattle.decide.specs.Octets.{header_place, carried_for, block_octets, octets_of}
use Rattle.demands.specs.Explaining.{bits_in, right_bits, NotFormed, Wrong}

-- ---- check 16

-- The field that the detail names, in its octet of a packet, has not its right value.
header-wrong : (p : List ℕ) → Octets p → eqb (header_fault p) 0 ≡ false → bits_in (header_fault p) (octet p (header_place (header_fault p))) ≡ right_bits (header_fault p) → ⊥
header-wrong p o =
    let id : ℕ = word16 p 0 in
    let version : id / 8192 ≡ octet p 0 / 32 = omega (arith, o 0, o 1) in
    let kind : id / 4096 ≡ octet p 0 / 16 = omega (arith, o 0, o 1) in
    let flag : id / 2048 ≡ octet p 0 / 8 = omega (arith, o 0, o 1) in
    let flags : word16 p 2 / 16384 ≡ octet p 2 / 64 = omega (arith, o 2, o 3) in
    fault_by (λ (n : ℕ). eqb n 0 ≡ false → bits_in n (octet p (header_place n)) ≡ right_bits n → ⊥) p
    (λ w _ e. eqb-false _ _ w (version ∙ e))
    (λ w _ e. eqb-false _ _ w (ap (λ (n : ℕ). n % 2) kind ∙ e))
    (λ w _ e. eqb-false _ _ w (ap (λ (n : ℕ). n % 2) flag ∙ e))
    (λ w _ e. eqb-false _ _ w (flags ∙ e))
    (λ w _ e. eqb-false _ _ w e)
    (λ none e. false≢true (sym none))

place_most : (detail : ℕ) → header_place detail ≤ 6
place_most detail =
    by-test (leb detail 3)
    (λ t. rw t (omega arith))
    (λ e. rw e (by-test (eqb detail 4) (λ t. rw t (omega arith)) (λ f. rw f (omega arith))))

module _ (p : Profile) (packet : List ℕ) (octets : Octets packet) where
  -- What a refusal shows: a part of the packet that has a last offset, and in it what is wrong.
  abbrev pub Shows : Refusal → Type 0
  Shows r = (1 ≤ (octets_of packet r).to) × Wrong p packet r.check r.detail (placed (octets_of packet r) packet)

  abbrev ShowsRow : Row Refusal → Type 0
  ShowsRow x = Shows x.refusal

  abbrev n : ℕ
  n = length packet

  abbrev d : List ℕ
  d = application_of packet

  abbrev f : Fields
  f = fields_of packet

  -- An octet of the packet by itself, and two of them as a number.
  one : (at : ℕ) → at + 1 ≤ n → octet (between at (at + 1) packet) 0 ≡ octet packet at
  one at h = between-octet at (at + 1) packet 0 (omega arith) h ∙ ap (octet packet) (add-zero at)

  two : (at : ℕ) → at + 2 ≤ n → word16 (between at (at + 2) packet) 0 ≡ word16 packet at
  two at h = between-word16 at (at + 2) packet 0 (omega arith) h ∙ ap (word16 packet) (add-zero at)

  -- ---- 42, 1, 2 and 16

  shows_short : leb least_octets n ≡ false → ShowsRow (row Short 0 (leb least_octets n))
  unfolding octets_of
  shows_short h = (omega arith, leb-false _ _ h)

  module _ (six : least_octets ≤ n) where
    shows_length : length_right packet ≡ false → Shows (record { check = Length; detail = min n most_detail })
    unfolding octets_of
    shows_length h =
        (omega arith, λ least most e. false≢true (sym h ∙ length_right_lem packet least most (e ∙ ap (λ (w : ℕ). w + 7) (two 4 (omega arith)))))

  module _ (long : length_right packet ≡ true) where
    least : 12 ≤ n
    least = length_least packet long

    last_part : between (n - 2) n packet ≡ drop (n - 2) packet
    last_part =
        between-eq (n - 2) n packet (omega arith) (omega arith)
        ∙ take_all (n - (n - 2)) (drop (n - 2) packet) (omega (arith, length-drop (n - 2) packet))

    shows_control : control_right packet ≡ false → Shows (record { check = Control; detail = right_control packet })
    unfolding octets_of
    shows_control h =
        let x : ℕ = right_control packet in
        let s : List ℕ = between (n - 2) n packet in
        let read : word16 s 0 ≡ word16 packet (n - 2) = between-word16 (n - 2) n packet 0 (omega (arith, least)) (omega arith) ∙ ap (word16 packet) (add-zero (n - 2)) in (
          omega (arith, least),
          (
            sym (take-append-drop (n - 2) packet) ∙ ap (λ (r : List ℕ). covered packet ++ r) (sym last_part),
            refl,
            λ e.
                let back : word16 s 0 ≡ x / 256 * 256 + x % 256 = ap (λ (r : List ℕ). word16 r 0) e in
                false≢true (sym h ∙ control_right_lem packet (sym read ∙ back ∙ omega arith)),
          ),
        )

    shows_header : eqb (header_fault packet) 0 ≡ false → Shows (record { check = BadHeader; detail = header_fault packet })
    unfolding octets_of
    shows_header h =
        let k : ℕ = header_place (header_fault packet) in (
          omega arith,
          λ e. header-wrong packet octets h (ap (bits_in (header_fault packet)) (sym (one k (omega (arith, least, place_most (header_fault packet))))) ∙ e),
        )

    -- ---- 0, 3 and 4

    shows_apid : eqb f.apid (apid_of p.pid category) ≡ false → Shows (record { check = Apid; detail = f.apid })
    unfolding octets_of fields_of
    shows_apid h = (omega arith, (ap (λ (w : ℕ). w % 2048) (sym (two 0 (omega (arith, least)))), eqb-false _ _ h))

    shows_service : serves p.flags f.kind ≡ false → Shows (record { check = Service; detail = f.kind })
    unfolding octets_of fields_of
    shows_service h = (omega arith, (sym (one 7 (omega (arith, least))), h))

    shows_subtype : offers p.flags (asked_by f) ≡ false → Shows (record { check = Subtype; detail = f.kind * 256 + f.subtype })
    unfolding octets_of fields_of
    shows_subtype h =
        let first : octet (between 7 9 packet) 0 ≡ octet packet 7 = between-octet 7 9 packet 0 (omega arith) (omega (arith, least)) in
        let second : octet (between 7 9 packet) 1 ≡ octet packet 8 = between-octet 7 9 packet 1 (omega arith) (omega (arith, least)) in
        (omega arith, (sym (two 7 (omega (arith, least))), ap₂ (λ (a b : ℕ). offers p.flags (asked_for a b)) first second ∙ h))

    -- ---- 5, 17, 18 and 19

    module _ (asked : Option Request) (asks : asked_by f ≡ asked) where
      shows_form : (detail : ℕ) → NotFormed asked d → Shows (record { check = Form; detail = detail })
      unfolding octets_of application_of
      shows_form detail h = (omega (arith, least), (refl, subst (λ (a : Option Request). NotFormed a d) (sym asks) h))

    module _ (action : Action) (asks : asked_by f ≡ Some (Asks action)) (head : head_right d ≡ true) where
      -- The application data lies in the packet.
      data_short : length d ≤ n - 2 - 10
      unfolding application_of
      data_short = between_most 10 (n - 2) packet

      data_octet : (k : ℕ) → k < length d → octet d k ≡ octet packet (10 + k)
      unfolding application_of
      data_octet k h = between-octet 10 (n - 2) packet k (omega (arith, data_short)) (omega (arith, least))

      -- The memory ID.
      id_shown : octet d 0 ≡ octet (between 10 11 packet) 0
      id_shown = data_octet 0 (omega (arith, (head_facts d head).long)) ∙ sym (one 10 (omega (arith, least)))

      shows_memory : is_found (area_named p d) ≡ false → Shows (record { check = Memory; detail = octet d 0 })
      unfolding octets_of
      shows_memory h = (omega arith, (id_shown, found_not (area_named p d) h))

      module _ (area : Area) (named : area_named p d ≡ Some area) where
        shows_right : has_right (area_named p d) action ≡ false → Shows (record { check = Right; detail = octet d 0 })
        unfolding octets_of
        shows_right h = (
          omega arith,
          (
            id_shown,
            record { area = area; named = named; action = action; asks = asks; lacks = subst (λ (g : Option Area). has_right g action ≡ false) named h },
          ),
        )

        module _ (formed : is_right (form_of (carried_by action) (most_words action) d) ≡ true) where
          shows_outside : (number : ℕ) → outside_of area (blocks_of (carried_by action) d) ≡ number → eqb number 0 ≡ false → Shows (record { check = Outside; detail = number })
          unfolding octets_of block_octets application_of
          shows_outside number e some =
              let k : ℕ = number - 1 in
              let positive : number ≡ k + 1 = omega (arith, eqb-false number 0 some) in
              let carried : carried_for (asked_by f) ≡ carried_by action = ap carried_for asks in
              let same : (j : ℕ) → block_behind (carried_for (asked_by f)) d j ≡ block_behind (carried_by action) d j = λ j. ap (λ (c : ℕ). block_behind c d j) carried in
              let stop : Stopped (carried_by action) d (Bounds (most_words action) (length d)) (inside_of area) 0 k =
              outside_behind area (carried_by action) d (Bounds (most_words action) (length d)) k (right_bounds (carried_by action) (most_words action) d formed) (e ∙ positive) in
              let b : Block = block_behind (carried_for (asked_by f)) d k in
              let at : ℕ = b.at in
              let s : List ℕ = between (10 + at) (10 + at + 6) packet in
              let fits : at + 6 ≤ length d = omega (arith, ap (λ (x : Block). x.at) (same k), stop.has.header) in
              let start : word32 s 0 ≡ b.start =
              between-word32 (10 + at) (10 + at + 6) packet 0 (omega arith) (omega (arith, fits, data_short, least))
              ∙ ap (word32 packet) (add-zero (10 + at))
              ∙ sym (between-word32 10 (n - 2) packet at (omega (arith, fits, data_short, least)) (omega (arith, least)))
              ∙ sym (behind_fields (carried_for (asked_by f)) d k).0 in
              let place : 10 + (at + 4) ≡ 10 + at + 4 = omega arith in
              let words : word16 s 4 ≡ b.words =
              between-word16 (10 + at) (10 + at + 6) packet 4 (omega arith) (omega (arith, fits, data_short, least))
              ∙ ap (word16 packet) (sym place)
              ∙ sym (between-word16 10 (n - 2) packet (at + 4) (omega (arith, fits, data_short, least)) (omega (arith, least)))
              ∙ sym (behind_fields (carried_for (asked_by f)) d k).1 in (
                omega arith,
                record {
                  area = area;
                  named = ap (λ (id : ℕ). find_in id (used p)) (sym (data_octet 0 (omega (arith, (head_facts d head).long)))) ∙ named;
                  start = start;
                  words = words;
                  outside = ap₂ (inside area) start words ∙ ap (inside_of area) (same k) ∙ stop.fails;
                  before = λ j one less. ap (inside_of area) (same (j - 1)) ∙ stop.before (j - 1) (omega arith) (omega arith);
                },
              )

    -- ---- the table

    shows_memory_rows : (action : Action) → asked_by f ≡ Some (Asks action) → (r : Row Refusal) → First (memory_rows p action d) r → ShowsRow r
    unfolding memory_rows area_rows
    shows_memory_rows action asks r =
        first_by ShowsRow _ _ r
        (λ w. shows_form (Some (Asks action)) asks 0 (λ formed. false≢true (sym w ∙ formed.0)))
        (λ head.
        first_by ShowsRow _ _ r
        (λ w. shows_form (Some (Asks action)) asks (form_detail (form_of (carried_by action) (most_words action) d)) (λ formed. false≢true (sym w ∙ formed.1)))
        (λ formed.
        first_by ShowsRow _ _ r
        (λ w. shows_memory action asks head w)
        (λ found.
        let at = found_is (area_named p d) found in
        first_by ShowsRow _ _ r
        (λ w. shows_right action asks head at.0 at.1 w)
        (λ _.
        first_by ShowsRow _ _ r
        (λ w.
        let number : outside_of at.0 (blocks_of (carried_by action) d) ≡ outside_number (area_named p d) action d = sym (ap (λ (g : Option Area). outside_number g action d) at.1) in
        shows_outside action asks head at.0 at.1 formed (outside_number (area_named p d) action d) number
        (ap (λ (m : ℕ). eqb m 0) (sym number) ∙ subst (λ (g : Option Area). all_inside g action d ≡ false) at.1 w))
        (λ _. first-none r)))))

    shows_service_rows : (asked : Option Request) → asked_by f ≡ asked → (r : Row Refusal) → First (service_rows p asked d) r → ShowsRow r
    unfolding connection_rows
    shows_service_rows (Some (Asks action)) asks r = shows_memory_rows action asks r
    shows_service_rows (Some Connection) asks r =
        first_by ShowsRow _ _ r
        (λ w. shows_form (Some Connection) asks 0 (λ e. false≢true (sym w ∙ eq-eqb (length d) 0 (ap length e))))
        (λ _. first-none r)
    shows_service_rows None asks r = first-none r

  -- Whichever row of the table is the first that fails.
  pub shows_first : (r : Row Refusal) → First (packet_rows p packet) r → ShowsRow r
  unfolding reader_rows request_rows
  shows_first r =
      first_by ShowsRow _ _ r
      shows_short
      (λ six.
      first_by ShowsRow _ _ r
      (shows_length (leb-true _ _ six))
      (λ long.
      first_by ShowsRow _ _ r
      (shows_control long)
      (λ _.
      first_by ShowsRow _ _ r
      (shows_header long)
      (λ _.
      first_by ShowsRow _ _ r
      (shows_apid long)
      (λ _.
      first_by ShowsRow _ _ r
      (shows_service long)
      (λ _.
      first_by ShowsRow _ _ r
      (shows_subtype long)
      (λ _. shows_service_rows long (asked_by f) refl r)))))))
