-- What is refused of an interface is told of its own rules, and is never TooMany.
use Rattle.std.proofs.Common.{◌≡◌, ℕ, Err}
use Rattle.std.specs.Prelude.{◌≢◌}
use Rattle.vhdl_names_rules.specs.units.Units.{Entity}
use Rattle.vhdl_names_rules.specs.units.Bytes.{entity_bytes}
use Rattle.vhdl_expand_rules.specs.declared.fault.ElabProblem.{ElabProblem}
use Rattle.vhdl_expand_rules.specs.declared.fault.ElabProblem.TheVariants.{TooMany}
use Rattle.vhdl_expand_rules.specs.Elab.{Told, Elab}
use Rattle.vhdl_expand_rules.specs.Tops.{Top, top_interface}
use Rattle.vhdl_expand_rules.proofs.Tells.{IsOwn, At}
use Rattle.vhdl_expand_rules.proofs.Items.{all_any}
use Rattle.vhdl_expand_rules.proofs.laws.told.Declarations.{entity_stands, top_interface_tells}

abbrev IsNoBudget : Told → Type 0
IsNoBudget told = told.0 ≢ TooMany

pub record TellsNoBudget {A : Type 0} (r : Elab A) : Type 0 where
  pub other : (told : Told) → r ≡ Err told → told.0 ≢ TooMany

own : (problem : ElabProblem) → IsOwn problem → problem ≢ TooMany
own TooMany h e = absurd h
own _ h e = absurd cc

anywhere : (at : ℕ) → At IsNoBudget at
anywhere at problem h = own problem h

pub of-top : (top : Top) (unit : Entity) → TellsNoBudget (top_interface top unit)
of-top top unit =
    let told = top_interface_tells IsNoBudget top unit (entity_stands (At IsNoBudget) unit (all_any (At IsNoBudget) anywhere (entity_bytes unit))) in
    record { other = told.told_at }
