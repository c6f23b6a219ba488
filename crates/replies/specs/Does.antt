-- docs/CASES.md, the table: what each command does, and what it prints.
use Rattle.std.specs.Prelude.{List, [], ◌∷◌, Option, Some, None, ℕ, length}
use Rattle.octets.specs.Copy.{laid}
use Rattle.commands.specs.declared.form.Command.{Command}
use Rattle.commands.specs.declared.form.Command.TheVariants.{SetProfile, SetStore, SetCounts, SetTime, SetBuffer, Answer, PrintBuffer, PrintStore, Read, Write, Check, CheckFrom, Wider, ReadFrames}
use Rattle.commands.specs.declared.session.Session.{Session}
use Rattle.commands.specs.Session.{with_profile, with_state, with_time, with_stored, with_room, profile_in, state_in, time_in, filling}
use Rattle.saying.specs.Text.{line_of}
use Rattle.fieldtext.specs.Fields.{read_text as frame_text}
use Rattle.showing.specs.Shows.{Bench, Does, store_now, out_now, answering, read_text, write_text, control_text, going_on_text, wider_text}

-- The answer to a bad line.
abbrev pub bad_text : List ℕ
bad_text = line_of (2 ∷ 0 ∷ [])

-- A command that prints nothing, and one that changes nothing.
abbrev pub setting : Session → List ℕ → List ℕ → Does
setting s store out = record { said = []; after = record { session = s; store = store; out = out } }

abbrev pub printing : Bench → List ℕ → Does
printing b text = record { said = text; after = b }

-- Each command, given the octets that it takes; a line without one is bad.
unfoldable pub does : Option Command → Bench → List ℕ → Does
does None b given = printing b bad_text
does (Some SetProfile) b given = setting (with_profile b.session (profile_in given)) b.store b.out
does (Some SetStore) b given = setting (with_stored b.session (length given)) (laid b.store 0 given) b.out
does (Some SetCounts) b given = setting (with_state b.session (state_in given)) b.store b.out
does (Some SetTime) b given = setting (with_time b.session (time_in given)) b.store b.out
does (Some SetBuffer) b given = setting (with_room b.session (length (filling given))) b.store (laid b.out 0 (filling given))
does (Some Answer) b given = answering b given
does (Some PrintBuffer) b given = printing b (line_of (out_now b))
does (Some PrintStore) b given = printing b (line_of (store_now b))
does (Some Read) b given = printing b (read_text given)
does (Some Write) b given = printing b (write_text given)
does (Some Check) b given = printing b (control_text given)
does (Some CheckFrom) b given = printing b (going_on_text given)
does (Some Wider) b given = printing b (wider_text b.session given)
does (Some ReadFrames) b given = printing b (frame_text given)
