-- What the laws of flat netlists ask of a netlist holds of every netlist that is elaborated from sound units: each
-- value, net, place and length is in range, nothing inside drives the top's in ports, nets start with the resolution of
-- their sources, and several sources meet at nets of the nine values alone (IEEE 1076-2008, 14.7).
use Rattle.std.specs.Prelude.{◌≡◌, ◌≤◌, length, Ok, IsTrue}
use Rattle.rtl_model.specs.nets.FlatNetlist.{IsInRange}
use Rattle.rtl_model.specs.nets.Wiring.{IsConnected}
use Rattle.rtl_net.specs.Limits.{most_nets, most_processes, most_scopes}
use Rattle.vhdl_names_rules.specs.units.Units.{Units}
use Rattle.vhdl_names_rules.specs.sound.Units.{are_sound}
use Rattle.vhdl_elab_rules.specs.Elaboration.{Elaborated, elaborated_net}
use Rattle.vhdl_expand_rules.specs.Tops.{Top}

abbrev pub EachNetIsSound : Type 0
EachNetIsSound =
    (units : Units) (top : Top) (x : Elaborated) → IsTrue (are_sound units) → elaborated_net units top ≡ Ok x
    → IsInRange x.flat × IsConnected x.flat

-- the limits of elaboration
pub record IsWithinLimits (x : Elaborated) : Type 0 where
  pub nets : length x.flat.types ≤ most_nets
  pub processes : length x.flat.processes ≤ most_processes
  pub scopes : length x.scopes ≤ most_scopes

abbrev pub EachNetIsWithinLimits : Type 0
EachNetIsWithinLimits =
    (units : Units) (top : Top) (x : Elaborated) → elaborated_net units top ≡ Ok x → IsWithinLimits x
