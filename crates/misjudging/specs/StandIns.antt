-- Document 02, wish 7: judges of records, those that are right, and families of wrong ones, each said by what all of its members do.
use Rattle.std.specs.Prelude.{◌≡◌, Bool, true, false, List, [], ◌∷◌, ◌++◌, ℕ, ◌-◌, ◌<◌, length, take}
use Rattle.laws.specs.Each.{Each}
use Rattle.octets.specs.Numbers.{octet}
use Rattle.checks.specs.Verdict.{is_accepted}
use Rattle.characters.specs.Digits.{text_of, octets_in}
use Rattle.tm.specs.Frame.{time_end, frame_size}
use Rattle.packetline.specs.Packet.{is_packet}
use Rattle.map.specs.declared.Profile.{Profile}
use Rattle.terminal.specs.Outcome.{verdict_on}
use Rattle.hexline.specs.Line.{Station, packet_input}
use Rattle.conforming.specs.Groups.{Line, Filled}
use Rattle.conforming.specs.Conforms.{frames_for}
use Rattle.conforming.specs.Verdict.{Verdict, Conforming, Differs, Refused70, Refused71}
use Rattle.conforming.specs.Permitted.{Permitted}

-- A judge gives a verdict on the lines of a record, under a profile and from what goes from packet to packet.
abbrev pub Judge : Type 0
Judge = Profile → Station → List Line → Verdict

-- A judge that is right: whatever it says of a record is permitted.
abbrev pub Right : Judge → Type 0
Right judge = (p : Profile) (m : Station) (lines : List Line) → Permitted p m lines (judge p m lines)

-- Whether a verdict calls a record conforming.
abbrev pub conforming : Verdict → Bool
conforming (Conforming packets frames) = true
conforming (Differs number tc due line) = false
conforming (Refused70 number line) = false
conforming Refused71 = false

-- ---- the three of the ledger

-- Takes silence for a refusal: a TC that the reference refuses passes without a TM line.
abbrev pub TakesSilence : Judge → Type 0
TakesSilence judge = (p : Profile) (m : Station) (tc : Line) → Filled tc → is_packet tc ≡ true → is_accepted (verdict_on (packet_input p m (octets_in tc))) ≡ false
    → conforming (judge p m (tc ∷ [])) ≡ true

-- Compares a check value with itself: where a (6,10) alone is due, its last two octets, the check value, may be any.
abbrev pub ComparesItself : Judge → Type 0
ComparesItself judge = (p : Profile) (m : Station) (tc : Line) (frame value : List ℕ) → is_packet tc ≡ true → frames_for p m tc ≡ frame ∷ [] → octet frame 13 ≡ 6 → octet frame 14 ≡ 10 → length value ≡ 2
    → conforming (judge p m (tc ∷ text_of (take (length frame - 2) frame ++ value) ∷ [])) ≡ true

-- Passes what it cannot read: where one frame is due, a TM line too short to hold a time passes, or one that is no frame, since its length field says another length.
abbrev pub PassesShort : Judge → Type 0
PassesShort judge = (p : Profile) (m : Station) (tc line : Line) (frame : List ℕ) → is_packet tc ≡ true → frames_for p m tc ≡ frame ∷ [] → Filled line → is_packet line ≡ true → length (octets_in line) < time_end
    → conforming (judge p m (tc ∷ line ∷ [])) ≡ true

abbrev pub PassesUnread : Judge → Type 0
PassesUnread judge = (p : Profile) (m : Station) (tc line : Line) (frame : List ℕ) → is_packet tc ≡ true → frames_for p m tc ≡ frame ∷ [] → Filled line → is_packet line ≡ true
    → (length (octets_in line) ≡ frame_size (octets_in line) → ⊥) → conforming (judge p m (tc ∷ line ∷ [])) ≡ true

-- ---- others

-- Stops at the first TC: what stands behind the empty line that ends its group changes nothing.
abbrev pub StopsAtFirst : Judge → Type 0
StopsAtFirst judge = (p : Profile) (m : Station) (tc : Line) (tms rest : List Line) → Each Filled (tc ∷ tms)
    → judge p m (tc ∷ (tms ++ ([] ∷ rest))) ≡ judge p m (tc ∷ tms)

-- Ignores lines too many: a record that it calls conforming, and that does not end with an empty line, it calls so with one TM line more.
abbrev pub IgnoresMore : Judge → Type 0
IgnoresMore judge = (p : Profile) (m : Station) (lines : List Line) (last line : Line) → Filled last → conforming (judge p m (lines ++ (last ∷ []))) ≡ true
    → Filled line → is_packet line ≡ true → conforming (judge p m (lines ++ (last ∷ line ∷ []))) ≡ true

-- Calls a record of no TC conforming.
abbrev pub CallsNone : Judge → Type 0
CallsNone judge = (p : Profile) (m : Station) → conforming (judge p m []) ≡ true

-- Calls no record conforming.
abbrev pub NeverConforms : Judge → Type 0
NeverConforms judge = (p : Profile) (m : Station) (lines : List Line) → conforming (judge p m lines) ≡ false

-- Starts the reference again at each TC: a group is judged as if it were the first.
abbrev pub StartsAgain : Judge → Type 0
StartsAgain judge = (p : Profile) (m : Station) (group : List Line) → Each Filled group → conforming (judge p m group) ≡ true
    → conforming (judge p m (group ++ ([] ∷ group))) ≡ true
