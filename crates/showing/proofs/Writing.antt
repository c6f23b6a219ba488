-- Laws of what the writer's command prints: the front of an array as the writer's buffer.
-- Assumes nothing.
use mathlib.Core.Path.{◌≡◌, refl, ap, ◌∙◌}
use mathlib.Core.List.{List, ◌∷◌, ◌++◌}
use Prim.Native.Nat.{ℕ, zero, suc, ◌≤◌}
use native.Mathlib.Nat.{le_of_suc-le-suc, not-suc-le-zero}
use native.Mathlib.Omega.{arith}
use lib.ListN.{length, take, replicate, length-append, length-replicate}
use lib.Seq.{take_at}
use Rattle.writer.specs.Writer.{Written}
use Rattle.writer.specs.Writer.{Writes, written_of, buffer_after}
use Rattle.saying.specs.Text.{space, line_of, Says}
use Rattle.printing.specs.Answer.{written_text}
use Rattle.saying.proofs.Saying.{says_append}
use Rattle.showing.specs.Shows.{order_in, room_in, data_in, writer_buffer, write_text}

-- The first of many equal octets are as many of them.
pub take_replicate : (n m x : ℕ) → n ≤ m → take n (replicate m x) ≡ replicate n x
take_replicate zero m x h = refl
take_replicate (suc n) zero x h = absurd (not-suc-le-zero h)
take_replicate (suc n) (suc m) x h = ap (λ (r : List ℕ). x ∷ r) (take_replicate n m x (le_of_suc-le-suc h))

-- They are as many as are taken.
pub taken_length : (n m x : ℕ) → n ≤ m → length (take n (replicate m x)) ≡ n
taken_length n m x h = ap length (take_replicate n m x h) ∙ length-replicate n x

-- What stands at the front of some octets lies within them.
pub front_inside : (p q : List ℕ) (n : ℕ) → length p ≡ n → n ≤ length (p ++ q)
front_inside p q n e = simp length-append (omega arith)

-- The writer's answer and then the front of the array that it wrote into are what the command prints.
pub write_says : {lent buffer text text₁ text₂ : List ℕ} {at room r₁ r₂ : ℕ} {w : Written} (given rest : List ℕ)
    → room ≡ room_in given → lent ≡ replicate room 0xEE → length buffer ≡ room
    → Writes (order_in given) (data_in given) lent w buffer
    → Says (written_text w) at text r₁ text₁
    → Says (space ∷ line_of (take room (buffer ++ rest))) r₁ text₁ r₂ text₂
    → Says (write_text given) at text r₂ text₂
unfolding write_text
write_says {buffer = buffer} {room = room} {w = w} given rest asked equal long written code octets =
    let answer : w ≡ written_of (order_in given) (length (data_in given)) (room_in given) =
    written.answer_is ∙ ap (written_of (order_in given) (length (data_in given))) (ap length equal ∙ length-replicate room 0xEE ∙ asked) in
    let left : take room (buffer ++ rest) ≡ buffer_after (order_in given) (data_in given) (writer_buffer given) =
    take_at buffer rest room long ∙ written.buffer_is ∙ ap (buffer_after (order_in given) (data_in given)) (equal ∙ ap (λ (n : ℕ). replicate n 0xEE) asked) in
    rw (answer, left) at (says_append code octets)
