-- In a tree of named units the labels of generates before a process are joined by dots, with one behind them where
-- there are any: so a netlist keeps them without the last dot.
use Rattle.std.specs.Prelude.{◌≡◌, ℕ, ⊤, List, Ok, IsTrue}
use Rattle.rtl_net.specs.Names.{generates_prefix}
use Rattle.vhdl_names_rules.specs.units.Units.{Units}
use Rattle.vhdl_names_rules.specs.sound.Named.{are_named}
use Rattle.vhdl_expand_rules.specs.Tree.{Instance, instance, Parts, no_parts, process, inner}
use Rattle.vhdl_expand_rules.specs.Expansion.{Design, expanded_design}
use Rattle.vhdl_expand_rules.specs.Tops.{Top}

-- labels joined by dots, and a dot behind them, or none
abbrev pub IsDotted : List ℕ → Type 0
IsDotted prefix = (generates : List ℕ) × (prefix ≡ generates_prefix generates)

abbrev mutual
  pub InstanceIsDotted : Instance → Type 0
  InstanceIsDotted (instance os turns parts) = PartsAreDotted parts

  pub PartsAreDotted : Parts → Type 0
  PartsAreDotted no_parts = ⊤
  PartsAreDotted (process p rest) = IsDotted p.prefix × PartsAreDotted rest
  PartsAreDotted (inner label i rest) = InstanceIsDotted i × PartsAreDotted rest

abbrev pub EachTreeIsDotted : Type 0
EachTreeIsDotted =
    (units : Units) (top : Top) (design : Design) → IsTrue (are_named units)
    → expanded_design units top ≡ Ok design → InstanceIsDotted design.top
