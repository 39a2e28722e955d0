-- Elaborated netlists are netlists in the sense of rtl_net.
use Rattle.std.specs.Prelude.{◌≡◌, All, Ok, IsTrue}
use Rattle.rtl_net.specs.Nets.{NetlistView}
use Rattle.rtl_net.specs.Elaborated.{ReadsOfBody, IsNet}
use Rattle.vhdl_names_rules.specs.units.Units.{Units}
use Rattle.vhdl_names_rules.specs.sound.Units.{are_sound}
use Rattle.vhdl_names_rules.specs.sound.Named.{are_named}
use Rattle.vhdl_elab_rules.specs.Elaboration.{Elaborated, elaborated_net}
use Rattle.vhdl_elab_rules.specs.Shown.{Shows}
use Rattle.vhdl_expand_rules.specs.Tops.{Top}

-- A netlist that shows what is elaborated from sound and named units, and whose processes list what their bodies read,
-- is one in the sense of rtl_net.
abbrev pub EachElaboratedIsNet : Type 0
EachElaboratedIsNet =
    (units : Units) (top : Top) (x : Elaborated) (net : NetlistView)
    → IsTrue (are_sound units) → IsTrue (are_named units)
    → elaborated_net units top ≡ Ok x → Shows x net → All ReadsOfBody net.processes → IsNet net
