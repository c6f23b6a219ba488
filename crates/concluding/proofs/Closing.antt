-- The last verdict, case by case.
-- Assumes nothing.
use mathlib.Core.Path.{◌≡◌, refl}
use mathlib.Core.Bool.{true, false}
use mathlib.Core.List.{[]}
use Rattle.packline.specs.declared.Halt.TheVariants.{NoPacket}
use Rattle.desk.specs.declared.Desk.{Desk}
use Rattle.desk.specs.Place.{halting, is_halted}
use Rattle.concluding.specs.Closing.{conforming_text, no_packet_text, closing_says, closing_desk}

pub closing_halted : (d : Desk) → is_halted d ≡ true → ([] ≡ closing_says d) × (d ≡ closing_desk d)
unfolding closing_says closing_desk
closing_halted d h = rw h (refl, refl)

pub closing_some : (d : Desk) → is_halted d ≡ false → d.group.some ≡ true → (conforming_text d.group.packets d.group.frames ≡ closing_says d) × (d ≡ closing_desk d)
unfolding closing_says closing_desk
closing_some d h t = rw (h, t) (refl, refl)

pub closing-none : (d : Desk) → is_halted d ≡ false → d.group.some ≡ false → (no_packet_text ≡ closing_says d) × (halting d NoPacket ≡ closing_desk d)
unfolding closing_says closing_desk
closing-none d h t = rw (h, t) (refl, refl)
