-- Laws of the layout: methods and error control, how long a packet is, and that it may be laid in two steps.
-- Assumes nothing.
use mathlib.Core.Path.{◌≡◌, refl, ap, ap₂, ◌∙◌, sym}
use mathlib.Core.List.{List}
use Prim.Native.Nat.{ℕ, ◌+◌, ◌≤◌, ◌<◌}
use native.Mathlib.Nat.{add_comm, zero-add}
use native.Mathlib.Omega.{arith}
use lib.Dec.{eqb}
use lib.ListN.{length, take, length-append}
use borrow.Author.Tests.{eqb-true, eqb-false}
use Rattle.laws.proofs.Tests.{by-test}
use Rattle.octets.specs.Numbers.{octets16}
use Rattle.octets.specs.Copy.{laid}
use Rattle.octets.proofs.Laid.{laid-append, laid_front}
use Rattle.crc.proofs.Laws.{crc_lt}
use Rattle.iso.proofs.Closing.{iso_lt}
use Rattle.tc.specs.declared.Fields.{Fields}
use Rattle.tc.specs.declared.Method.{Method}
use Rattle.tc.specs.declared.Method.TheVariants.{Iso, Crc}
use Rattle.tc.specs.Layout.{around, head_size, flag_of, method_of, value_by, error_control, head_of, body_of, packet_of}

-- A flag has one bit.
pub flag_lt : (method : Method) → flag_of method < 2
flag_lt Iso = omega arith
flag_lt Crc = omega arith

-- The flag of a method selects it, and a flag of one bit is that of the method that it selects.
pub flag_selects : (method : Method) → method_of (flag_of method) ≡ method
flag_selects Iso = refl
flag_selects Crc = refl

pub selected_flag : (flag : ℕ) → flag < 2 → flag_of (method_of flag) ≡ flag
selected_flag flag h =
    by-test (eqb flag 1) (λ t. rw t (sym (eqb-true flag 1 t))) (λ f. rw f (omega (arith, eqb-false flag 1 f)))

-- Error control is the value of the method that the flag selects; where the flag is a method's, of that one.
pub control_method : (f : Fields) (octets : List ℕ) → error_control f octets ≡ value_by (method_of f.checksum) octets
unfolding error_control
control_method f octets = refl

pub control_by : (f : Fields) (method : Method) (octets : List ℕ) → f.checksum ≡ flag_of method → error_control f octets ≡ value_by method octets
control_by f method octets e = control_method f octets ∙ ap (λ (flag : ℕ). value_by (method_of flag) octets) e ∙ ap (λ (m : Method). value_by m octets) (flag_selects method)

-- Error control has 16 bits, by either method.
value_lt : (method : Method) (octets : List ℕ) → value_by method octets < 65536
value_lt Iso octets = iso_lt octets
value_lt Crc octets = crc_lt octets

pub control_lt : (f : Fields) (octets : List ℕ) → error_control f octets < 65536
control_lt f octets = rw (control_method f octets) (value_lt (method_of f.checksum) octets)

pub body_length : (f : Fields) (application : List ℕ) → length (body_of f application) ≡ length application + head_size
unfolding body_of head_of
body_length f application = length-append (head_of f (length application)) application ∙ add_comm head_size (length application)

-- A packet is its data and twelve octets more.
pub packet_length : (f : Fields) (application : List ℕ) → length (packet_of f application) ≡ length application + around
unfolding packet_of
packet_length f application =
    length-append (body_of f application) (octets16 (error_control f (body_of f application)))
    ∙ ap (λ (n : ℕ). n + 2) (body_length f application) ∙ omega arith

-- The body laid first, and then the error control over what the buffer holds, are the packet.
pub laid_packet : (d : List ℕ) (f : Fields) (application d₁ d₂ : List ℕ) (end control : ℕ)
    → length application + head_size ≤ length d → end ≡ length application + head_size → d₁ ≡ laid d 0 (body_of f application)
    → control ≡ error_control f (take end d₁) → d₂ ≡ laid d₁ end (octets16 control) → d₂ ≡ laid d 0 (packet_of f application)
unfolding packet_of
laid_packet d f application d₁ d₂ end control room ends body right both =
    let b : List ℕ = body_of f application in
    let at : end ≡ length b = ends ∙ sym (body_length f application) in
    let held : take end d₁ ≡ b = ap₂ take at body ∙ laid_front d b (rw (body_length f application) room) in
    both
    ∙ ap (λ (x : ℕ). laid d₁ end (octets16 x)) (right ∙ ap (error_control f) held)
    ∙ ap₂ (λ (e : List ℕ) (n : ℕ). laid e n (octets16 (error_control f b))) body (at ∙ sym (zero-add (length b)))
    ∙ laid-append d 0 b (octets16 (error_control f b))
