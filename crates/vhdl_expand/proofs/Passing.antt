-- Faults that are passed on.
use Rattle.std.proofs.Common.{◌≡◌, ℕ, List, Result, Ok, Err, IfErr, sym, subst}
use Rattle.std.specs.Prelude.{◌≢◌, IsErrAnd}
use Rattle.vhdl_expand_rules.specs.Elab.{Elab, fault_told, MayTell}
use Rattle.vhdl_expand_rules.specs.declared.fault.ElabFault.{ElabFault}
use Rattle.vhdl_expand_rules.specs.declared.fault.ElabFault.TheVariants.{NoMemory}
use Rattle.vhdl_expand_operands.specs.Results.{Charges}

-- by a call that charges budgets
pub passed_told : {bytes : List ℕ} {X Y : Type 0} (view : X → Y) (given : Elab Y) (fault : ElabFault) (P : ElabFault → Type 0) (r : Result X ElabFault) → IsErrAnd r P
    → ((e : ElabFault) → P e → e ≡ fault) → (fault ≢ NoMemory → MayTell bytes given (fault_told fault)) → Charges bytes view given r
passed_told view given fault P (Ok x) h same f = absurd h
passed_told {bytes} view given fault P (Err e) h same f = subst (λ (x : ElabFault). x ≢ NoMemory → MayTell bytes given (fault_told x)) (sym (same e h)) f

-- by one that says this of its faults
pub passed_err : {X : Type 0} (Q : ElabFault → Type 0) (fault : ElabFault) (P : ElabFault → Type 0) (r : Result X ElabFault) → IsErrAnd r P
    → ((e : ElabFault) → P e → e ≡ fault) → Q fault → IfErr r Q
passed_err Q fault P (Ok x) h same f = absurd h
passed_err Q fault P (Err e) h same f = subst Q (sym (same e h)) f
