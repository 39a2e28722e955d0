-- The names of an elaborated netlist are those that rtl_net makes of its scopes, signals and processes (IEEE 1076-2008,
-- 16.2.5).
use Rattle.std.specs.Prelude.{◌≡◌, length, map, Ok, IsTrue}
use Rattle.std.specs.List.{range_with_len}
use Rattle.rtl_net.specs.Nets.{NetlistView}
use Rattle.rtl_net.specs.Names.{net_name, process_name}
use Rattle.vhdl_names_rules.specs.units.Units.{Units}
use Rattle.vhdl_names_rules.specs.sound.Units.{are_sound}
use Rattle.vhdl_elab_rules.specs.Elaboration.{Elaborated, elaborated_net}
use Rattle.vhdl_elab_rules.specs.Shown.{Shows}
use Rattle.vhdl_expand_rules.specs.Tops.{Top}

pub record IsNamedAlike (x : Elaborated) (net : NetlistView) : Type 0 where
  -- those of all nets, and of all processes, in order
  pub nets : map (net_name net) (range_with_len 0 (length net.types)) ≡ x.net_names
  pub processes : map (process_name net) (range_with_len 0 (length net.processes)) ≡ x.process_names

abbrev pub EachHasItsNames : Type 0
EachHasItsNames =
    (units : Units) (top : Top) (x : Elaborated) (net : NetlistView)
    → IsTrue (are_sound units) → elaborated_net units top ≡ Ok x
    → Shows x net → IsNamedAlike x net
