-- What elaboration may refuse of units is told at one of their bytes, or at 0.
use Rattle.std.specs.Prelude.{◌∷◌, Contains}
use Rattle.vhdl_names_rules.specs.units.Units.{Units}
use Rattle.vhdl_names_rules.specs.units.Bytes.{units_bytes}
use Rattle.vhdl_expand_rules.specs.Elab.{Told}
use Rattle.vhdl_expand_rules.specs.Tops.{Top}
use Rattle.vhdl_elab_rules.specs.Refused.{MayRefuse}

abbrev pub EachRefusalStandsInUnits : Type 0
EachRefusalStandsInUnits =
    (units : Units) (top : Top) (told : Told) → MayRefuse units top told → Contains (0 ∷ units_bytes units) told.1
