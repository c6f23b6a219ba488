-- Commands that set, and the octets that a line gives.
-- Assumes nothing.
use mathlib.Core.Path.{◌≡◌, ap, ap₂, ◌∙◌}
use mathlib.Core.List.{List}
use Prim.Native.Nat.{ℕ, ◌+◌, ◌/◌, min}
use native.Mathlib.Omega.{arith}
use lib.ListN.{length, take, length-drop}
use Rattle.laws.proofs.Tests.{by-test}
use Rattle.octets.specs.Copy.{laid}
use Rattle.characters.specs.Digits.{octets_in}
use Rattle.characters.proofs.Texts.{decoded_front}
use Rattle.std.specs.Prelude.{Option}
use Rattle.commands.specs.declared.form.Command.{Command}
use Rattle.commands.specs.declared.session.Session.{Session}
use Rattle.commands.specs.Form.{is_line, digits_of, given_in, command_of, command_in}
use Rattle.commands.proofs.Forms.{no_command, line_most_lem}
use Rattle.saying.proofs.Saying.{says_none}
use Rattle.showing.specs.declared.Served.{Served}
use Rattle.showing.specs.Shows.{Bench, Serves}
use Rattle.replies.specs.Does.{setting, does}

-- A command that prints nothing leaves the text, and the place at most one past its end.
pub sets : {session s : Session} {store out store' out' : List ℕ} {at place : ℕ} {text : List ℕ} {r : Served}
    → r ≡ record { session = session; at = place } → place ≡ min at (length text + 1) → session ≡ s → store ≡ store' → out ≡ out'
    → Serves (setting s store' out') at text r store out text
sets {place = place} {r = r} e f g h k =
    let place_is : r.at ≡ place = ap (λ (v : Served). v.at) e in
    record {
      says = says_none (place_is ∙ f);
      session_is = ap (λ (v : Served). v.session) e ∙ g;
      store_is = h;
      out_is = k;
    }

-- Doing a line's command with the octets at the front of what holds them is doing it with those that the line gives: of a bad line they may be cut, and nothing is done with them.
served_given : (line octets given : List ℕ) (b : Bench) → length octets ≡ 70000
    → given ≡ take (length (digits_of line) / 2) (laid octets 0 (given_in line))
    → does (command_of line given) b given ≡ does (command_in line) b (given_in line)
unfolding does
served_given line octets given b room e =
    by-test (is_line line)
    (λ good.
    let all : given ≡ given_in line =
    e ∙ decoded_front octets (digits_of line) (omega (arith, line_most_lem line good, length-drop 2 line)) in
    ap (λ (g : List ℕ). does (command_of line g) b g) all)
    (λ bad. rw (no_command line given bad, no_command line (given_in line) bad))

-- What the command of a line does with the octets decoded from its digits is what the line asks.
pub line_served : (line octets : List ℕ) (b : Bench) {octets' digits given : List ℕ} {command : Option Command} {at : ℕ} {text : List ℕ} {r : Served} {store out text' : List ℕ}
    → length octets ≡ 70000 → digits ≡ digits_of line → octets' ≡ laid octets 0 (octets_in digits) → given ≡ take (length digits / 2) octets'
    → command ≡ command_of line given → Serves (does command b given) at text r store out text'
    → Serves (does (command_in line) b (given_in line)) at text r store out text'
line_served line octets b {given = given} room d o g e h =
    let front : given ≡ take (length (digits_of line) / 2) (laid octets 0 (given_in line)) =
    g ∙ ap₂ (λ (n : ℕ) (l : List ℕ). take n l) (ap (λ (l : List ℕ). length l / 2) d) (o ∙ ap (λ (l : List ℕ). laid octets 0 (octets_in l)) d) in
    rw (← served_given line octets given b room front, ← e) h
