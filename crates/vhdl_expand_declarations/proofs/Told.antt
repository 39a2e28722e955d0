-- A fault tells its problem and where it stands.
use Rattle.std.proofs.Common.{◌≡◌, ℕ, Err, sym, ap, subst}
use Rattle.vhdl_expand_rules.specs.declared.fault.ElabFault.{ElabFault}
use Rattle.vhdl_expand_rules.specs.declared.fault.ElabFault.TheVariants.{At}
use Rattle.vhdl_expand_rules.specs.declared.fault.ElabProblem.{ElabProblem}
use Rattle.vhdl_expand_rules.specs.Elab.{Elab, fault_told, Told}

pub same_at : {A : Type 0} {given : Elab A} {fault : ElabFault} {problem : ElabProblem} {at : ℕ} → fault ≡ At problem at → given ≡ Err (problem, at) → given ≡ Err (fault_told fault)
same_at {A = A} {given = given} e h = let P : Told → Type 0 = λ q. given ≡ Err q in subst P (sym (ap (λ (f : ElabFault). fault_told f) e)) h
