-- A fault tells its problem and where it stands.
use Rattle.std.proofs.Common.{◌≡◌, ℕ, List, Ok, Err, Some, refl, sym, ap, ◌∙◌, subst}
use Rattle.std.specs.Prelude.{◌≢◌, IsOk, Option}
use Rattle.vhdl_names_rules.specs.units.Units.{Units, Entity}
use Rattle.vhdl_elab_rules.specs.Refused.{HasInterface}
use Rattle.vhdl_expand_rules.specs.declared.fault.ElabProblem.TheVariants.{NoTop, TooDeep, TooMany}
use Rattle.vhdl_expand_rules.specs.Declarations.{InstanceObjects}
use Rattle.vhdl_expand_rules.specs.Expansion.{entity_named}
use Rattle.vhdl_expand_rules.specs.declared.fault.ElabFault.{ElabFault}
use Rattle.vhdl_expand_rules.specs.declared.fault.ElabFault.TheVariants.{At}
use Rattle.vhdl_expand_rules.specs.declared.fault.ElabProblem.{ElabProblem}
use Rattle.vhdl_expand_rules.specs.Elab.{Elab, ◌>>=◌, item_or, fault_told, MayTell, Told}
use Rattle.vhdl_expand_rules.specs.Tops.{Top, top_interface}
use Rattle.vhdl_expand_tree.proofs.Alike.{tells}

pub told_at : {bytes : List ℕ} {A : Type 0} {given : Elab A} {fault : ElabFault} {problem : ElabProblem} {at : ℕ} → fault ≡ At problem at → MayTell bytes given (problem, at) → MayTell bytes given (fault_told fault)
told_at {bytes = bytes} {A = A} {given = given} e t = let P : Told → Type 0 = λ q. MayTell bytes given q in subst P (sym (ap (λ (f : ElabFault). fault_told f) e)) t

-- a problem that no budget has
pub other_told : {A : Type 0} {bytes : List ℕ} {given : Elab A} (problem : ElabProblem) (at : ℕ) → problem ≢ TooMany → given ≡ Err (problem, at) → MayTell bytes given (problem, at)
other_told problem at other e = tells (λ too. absurd (other too)) e

pub no_top_other : NoTop ≢ TooMany
no_top_other e = absurd cc

pub too_deep_other : TooDeep ≢ TooMany
too_deep_other e = absurd cc

-- the interface of the top was elaborated
pub has_interface : (units : Units) (top : Top) (unit : Entity) (d : InstanceObjects) → entity_named units top.name ≡ Some unit → top_interface top unit ≡ Ok d → HasInterface units top
has_interface units top unit d named known =
    let is = ap (λ (o : Option Entity). item_or NoTop 0 o >>= λ u. top_interface top u) named ∙ known in
    subst (λ (r : Elab InstanceObjects). IsOk r) (sym is) refl
