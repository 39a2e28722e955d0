-- Faults that are passed on.
use Rattle.std.proofs.Common.{◌≡◌, ◌≢◌, Option, None, Result, Ok, Err, IfErr, sym, subst}
use Rattle.std.specs.Prelude.{IsErrAnd}
use Rattle.vhdl_names_rules.specs.Gives.{Gives}
use Rattle.vhdl_names_rules.specs.declared.fault.NameFault.{NameFault}
use Rattle.vhdl_names_rules.specs.declared.fault.NameFault.TheVariants.{NoMemory}
use Rattle.vhdl_names_rules.specs.problems.Broken.{Broken, Tells, ◌▸◌}
use Rattle.vhdl_names_rules.proofs.Telling.{IsKept, told_left, told_right}

pub passed_on : {X Y : Type 0} (view : X → Y) (given : Option Y) (fault : NameFault) (P : NameFault → Type 0) (r : Result X NameFault) → IsErrAnd r P
    → ((e : NameFault) → P e → e ≡ fault) → (fault ≢ NoMemory → given ≡ None) → Gives view given r
passed_on view given fault P (Ok x) h same f = absurd h
passed_on view given fault P (Err e) h same f = subst (λ (y : NameFault). y ≢ NoMemory → given ≡ None) (sym (same e h)) f

pub told_by : {X : Type 0} (b : Broken) (fault : NameFault) (P : NameFault → Type 0) (r : Result X NameFault) → IsErrAnd r P
    → ((e : NameFault) → P e → e ≡ fault) → Tells b fault → IfErr r (Tells b)
told_by b fault P (Ok x) h same told = absurd h
told_by b fault P (Err e) h same told = subst (Tells b) (sym (same e h)) told

-- what the first of two parts breaks
pub told_first : {X : Type 0} (a b : Broken) (fault : NameFault) (P : NameFault → Type 0) (r : Result X NameFault) → IsErrAnd r P
    → ((e : NameFault) → P e → e ≡ fault) → Tells a fault → IfErr r (Tells (a ▸ b))
told_first a b fault P r h same told = told_by (a ▸ b) fault P r h same (told_left a b fault told)

-- what the second breaks, where the first breaks nothing
pub told_second : {X : Type 0} (a b : Broken) (fault : NameFault) (P : NameFault → Type 0) (r : Result X NameFault) → IsErrAnd r P
    → ((e : NameFault) → P e → e ≡ fault) → IsKept a → Tells b fault → IfErr r (Tells (a ▸ b))
told_second a b fault P r h same kept told = told_by (a ▸ b) fault P r h same (told_right a b fault kept told)
