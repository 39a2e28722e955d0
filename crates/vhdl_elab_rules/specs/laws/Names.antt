-- The parts of a netlist that is elaborated from named units have names and labels, and a process stands in a scope
-- that is there (IEEE 1076-2008, 16.2.5).
use Rattle.std.specs.Prelude.{◌≡◌, ◌≢◌, ℕ, ◌<◌, All, [], length, Ok, IsTrue, IfSome}
use Rattle.vhdl_names_rules.specs.units.Units.{Units}
use Rattle.vhdl_names_rules.specs.sound.Named.{are_named}
use Rattle.vhdl_elab_rules.specs.Names.{Scope, Signal, NamedVariable, NamedProcess}
use Rattle.vhdl_elab_rules.specs.Elaboration.{Elaborated, elaborated_net}
use Rattle.vhdl_expand_rules.specs.Tops.{Top}

-- a process of a netlist with so many scopes
pub record ProcessHasName (scopes : ℕ) (p : NamedProcess) : Type 0 where
  pub scope : p.scope < scopes
  pub label : IfSome p.label (λ label. label ≢ [])
  pub variables : All (λ (v : NamedVariable). v.name ≢ []) p.variables

pub record HasNames (x : Elaborated) : Type 0 where
  pub scopes : All (λ (s : Scope). s.label ≢ []) x.scopes
  pub signals : All (λ (s : Signal). s.name ≢ []) x.signals
  pub processes : All (ProcessHasName (length x.scopes)) x.processes

abbrev pub EachHasNames : Type 0
EachHasNames =
    (units : Units) (top : Top) (x : Elaborated)
    → IsTrue (are_named units) → elaborated_net units top ≡ Ok x → HasNames x
