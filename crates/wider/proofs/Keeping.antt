-- What is kept of rights and of flags, as facts, and that each is kept of itself and from wider to wider.
-- Assumes nothing.
use mathlib.Core.Bool.{Bool, true, false}
use mathlib.Core.Path.{◌≡◌, refl}
use Rattle.laws.proofs.Tests.{halves}
use Rattle.map.specs.declared.Rights.{Rights}
use Rattle.map.specs.declared.Flags.{Flags}
use Rattle.wider.specs.Wider.{keeps, keeps_rights, keeps_flags}

-- What is set in the narrower is set in the wider.
abbrev pub Kept : Bool → Bool → Type 0
Kept wide narrow = narrow ≡ true → wide ≡ true

-- A flag that is kept, as a test and as a fact.
pub kept : (wide narrow : Bool) → keeps wide narrow ≡ true → Kept wide narrow
kept true narrow h n = refl
kept false true h n = h
kept false false h n = n

pub keep : (wide narrow : Bool) → Kept wide narrow → keeps wide narrow ≡ true
keep true narrow f = refl
keep false true f = f refl
keep false false f = refl

-- ---- rights

pub record KeptRights (wide narrow : Rights) : Type 0 where
  pub load : Kept wide.load narrow.load
  pub dump : Kept wide.dump narrow.dump
  pub check : Kept wide.check narrow.check

pub rights_kept : (wide narrow : Rights) → keeps_rights wide narrow ≡ true → KeptRights wide narrow
unfolding keeps_rights
rights_kept wide narrow h = record { load = kept _ _ (search halves); dump = kept _ _ (search halves); check = kept _ _ (search halves) }

keep_rights : (wide narrow : Rights) → KeptRights wide narrow → keeps_rights wide narrow ≡ true
unfolding keeps_rights
keep_rights wide narrow f = rw (keep _ _ f.load, keep _ _ f.dump, keep _ _ f.check)

pub rights_self : (r : Rights) → keeps_rights r r ≡ true
rights_self r = keep_rights r r (record { load = λ h. h; dump = λ h. h; check = λ h. h })

pub rights_trans : (a b c : Rights) → keeps_rights a b ≡ true → keeps_rights b c ≡ true → keeps_rights a c ≡ true
rights_trans a b c h k =
    let f = rights_kept a b h in
    let g = rights_kept b c k in
    keep_rights a c (record { load = λ l. f.load (g.load l); dump = λ l. f.dump (g.dump l); check = λ l. f.check (g.check l) })

-- ---- flags

pub record KeptFlags (wide narrow : Flags) : Type 0 where
  pub load : Kept wide.load narrow.load
  pub dump : Kept wide.dump narrow.dump
  pub check : Kept wide.check narrow.check
  pub connection : Kept wide.connection narrow.connection

pub flags_kept : (wide narrow : Flags) → keeps_flags wide narrow ≡ true → KeptFlags wide narrow
unfolding keeps_flags
flags_kept wide narrow h = record {
  load = kept _ _ (search halves);
  dump = kept _ _ (search halves);
  check = kept _ _ (search halves);
  connection = kept _ _ (search halves);
}

keep_flags : (wide narrow : Flags) → KeptFlags wide narrow → keeps_flags wide narrow ≡ true
unfolding keeps_flags
keep_flags wide narrow f = rw (keep _ _ f.load, keep _ _ f.dump, keep _ _ f.check, keep _ _ f.connection)

pub flags_self : (f : Flags) → keeps_flags f f ≡ true
flags_self f = keep_flags f f (record { load = λ h. h; dump = λ h. h; check = λ h. h; connection = λ h. h })

pub flags_trans : (a b c : Flags) → keeps_flags a b ≡ true → keeps_flags b c ≡ true → keeps_flags a c ≡ true
flags_trans a b c h k =
    let f = flags_kept a b h in
    let g = flags_kept b c k in
    keep_flags a c (record {
      load = λ l. f.load (g.load l);
      dump = λ l. f.dump (g.dump l);
      check = λ l. f.check (g.check l);
      connection = λ l. f.connection (g.connection l);
    })
