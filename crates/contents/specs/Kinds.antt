-- Document 01, "Service data" and "Frames due": the kinds of reports, by type and subtype.
use Rattle.std.specs.Prelude.{Bool, cond, ℕ, eqb, Option, Some, None, is_some}
use Rattle.contents.specs.declared.Kind.{Kind}
use Rattle.contents.specs.declared.Kind.TheVariants.{Acceptance, Failure, Completion, Dump, Check, Connection}

-- Service 1: (1,1), (1,2) and (1,7).
abbrev pub service_kind : ℕ → Option Kind
service_kind subtype = cond (eqb subtype 1) (Some Acceptance) (cond (eqb subtype 2) (Some Failure) (cond (eqb subtype 7) (Some Completion) None))

-- Service 6: (6,6) and (6,10).
abbrev pub memory_kind : ℕ → Option Kind
memory_kind subtype = cond (eqb subtype 6) (Some Dump) (cond (eqb subtype 10) (Some Check) None)

-- The kind of a type and subtype; of service 17 there is (17,2).
unfoldable pub kind_of : ℕ → ℕ → Option Kind
kind_of kind subtype =
    cond (eqb kind 1) (service_kind subtype)
    (cond (eqb kind 6) (memory_kind subtype)
    (cond (eqb kind 17) (cond (eqb subtype 2) (Some Connection) None) None))

-- One of the six.
abbrev pub is_known : Option Kind → Bool
is_known k = is_some k

-- The type and the subtype of each kind; 0 where there is none.
abbrev pub type_of : Option Kind → ℕ
type_of (Some Acceptance) = 1
type_of (Some Failure) = 1
type_of (Some Completion) = 1
type_of (Some Dump) = 6
type_of (Some Check) = 6
type_of (Some Connection) = 17
type_of None = 0

abbrev pub subtype_of : Option Kind → ℕ
subtype_of (Some Acceptance) = 1
subtype_of (Some Failure) = 2
subtype_of (Some Completion) = 7
subtype_of (Some Dump) = 6
subtype_of (Some Check) = 10
subtype_of (Some Connection) = 2
subtype_of None = 0
