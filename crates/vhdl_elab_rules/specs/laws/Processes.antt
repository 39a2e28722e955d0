-- Each element of an instance has a net of its own type, and the processes of an elaborated netlist are in range: their
-- drivers and variables start with values of their types, and their bodies fit (IEEE 1076-2008, 14.7.2, 14.7.3).
use Rattle.std.specs.Prelude.{◌≡◌, All, List, Ok, IsTrue}
use Rattle.rtl_model.specs.bodies.Types.{ElementType, IsByte}
use Rattle.rtl_model.specs.nets.FlatNetlist.{ProcessInRange}
use Rattle.vhdl_names_rules.specs.units.Units.{Units}
use Rattle.vhdl_names_rules.specs.sound.Units.{are_sound}
use Rattle.vhdl_expand_rules.specs.Expansion.{Design, expanded_design}
use Rattle.vhdl_expand_rules.specs.Tops.{Top}
use Rattle.vhdl_elab_rules.specs.Numbering.{Placed, Numbered, numbered_design}
use Rattle.vhdl_elab_rules.specs.Wiring.{flat_net}
use Rattle.vhdl_elab_rules.specs.laws.Bodies.{AreNetsOf}

abbrev pub HasTypedNets : (types : List ElementType) → Placed → Type 0
HasTypedNets types p = AreNetsOf types p.objects p.nets

pub record ProcessesFit (d : Numbered) : Type 0 where
  pub types : All IsByte (flat_net d).types
  pub instances : All (HasTypedNets (flat_net d).types) d.instances
  pub processes : All (ProcessInRange (flat_net d).types) (flat_net d).processes

abbrev pub EachProcessFits : Type 0
EachProcessFits =
    (units : Units) (top : Top) (design : Design) → IsTrue (are_sound units)
    → expanded_design units top ≡ Ok design → ProcessesFit (numbered_design design)
