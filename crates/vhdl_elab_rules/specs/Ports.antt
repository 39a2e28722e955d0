-- The ports of the top of an elaborated netlist have names of their own (IEEE 1076-2008, 12.1), and the elements of its
-- in ports are the inputs, so that a stimulus can speak of them.
use Rattle.std.specs.Prelude.{◌≡◌, Bool, map, Ok, IsTrue}
use Rattle.std.specs.List.{list_all}
use Rattle.rtl_net.specs.Nets.{NetlistView}
use Rattle.rtl_stim_lines.specs.Inputs.{small}
use Rattle.rtl_stim.specs.Ports.{HasOwnPorts}
use Rattle.vhdl_names_rules.specs.Visibility.{are_distinct}
use Rattle.vhdl_names_rules.specs.units.Units.{Port, Entity, Units}
use Rattle.vhdl_names_rules.specs.sound.Units.{are_sound}
use Rattle.vhdl_elab_rules.specs.Elaboration.{Elaborated, elaborated_net}
use Rattle.vhdl_elab_rules.specs.Shown.{Shows}
use Rattle.vhdl_expand_rules.specs.Tops.{Top}

-- no two ports of an entity have the same name, whatever the case of their letters
abbrev pub entity_ports_are_distinct : Entity → Bool
entity_ports_are_distinct unit = are_distinct (map (λ (p : Port). small p.object.name) unit.ports)

abbrev pub ports_are_distinct : Units → Bool
ports_are_distinct units = list_all entity_ports_are_distinct units

abbrev pub EachHasOwnPorts : Type 0
EachHasOwnPorts =
    (units : Units) (top : Top) (x : Elaborated) (net : NetlistView)
    → IsTrue (are_sound units) → IsTrue (ports_are_distinct units)
    → elaborated_net units top ≡ Ok x → Shows x net → HasOwnPorts net
