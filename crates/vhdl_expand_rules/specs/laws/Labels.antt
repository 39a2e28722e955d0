-- Names and labels of an expanded tree have a letter, where those of its units have.
use Rattle.std.specs.Prelude.{◌≡◌, ◌≢◌, ⊤, All, [], Ok, IsTrue, IfSome}
use Rattle.vhdl_names_rules.specs.units.Units.{Units}
use Rattle.vhdl_names_rules.specs.sound.Named.{are_named}
use Rattle.vhdl_expand_rules.specs.Tree.{Object, Variable, Process, Instance, instance, Parts, no_parts, process, inner}
use Rattle.vhdl_expand_rules.specs.Expansion.{Design, expanded_design}
use Rattle.vhdl_expand_rules.specs.Tops.{Top}

pub record ProcessIsNamed (p : Process) : Type 0 where
  pub label : IfSome p.label (λ label. label ≢ [])
  pub variables : All (λ (v : Variable). v.name ≢ []) p.variables

abbrev mutual
  pub InstanceIsNamed : Instance → Type 0
  InstanceIsNamed (instance os turns parts) = All (λ (o : Object). o.name ≢ []) os × PartsAreNamed parts

  pub PartsAreNamed : Parts → Type 0
  PartsAreNamed no_parts = ⊤
  PartsAreNamed (process p rest) = ProcessIsNamed p × PartsAreNamed rest
  PartsAreNamed (inner label i rest) = (label ≢ []) × InstanceIsNamed i × PartsAreNamed rest

abbrev pub EachTreeIsNamed : Type 0
EachTreeIsNamed =
    (units : Units) (top : Top) (design : Design) → IsTrue (are_named units) → expanded_design units top ≡ Ok design
    → (design.name ≢ []) × InstanceIsNamed design.top
