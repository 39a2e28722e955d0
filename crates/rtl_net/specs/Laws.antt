-- What holds of each netlist.
use Rattle.rtl_model.specs.nets.CoreNetlist.{core_netlist}
use Rattle.rtl_model.specs.nets.Laws.{IsSound}
use Rattle.rtl_model.specs.simulation.Elaborated.{IsElaborated}
use Rattle.rtl_model.specs.simulation.Accepted.{IsAccepted}
use Rattle.rtl_model.specs.simulation.Range.{KeepsRange, SourcesKeepRange}
use Rattle.rtl_net.specs.Nets.{NetlistView, flat}
use Rattle.rtl_net.specs.Elaborated.{IsNet}

-- The premises of rtl_model's laws on simulation, and of those on accepted netlists where it is accepted.
pub record MeetsTheLaws (net : NetlistView) : Type 0 where
  pub elaborated : IsElaborated (core_netlist (flat net))
  pub keeps_range : KeepsRange (core_netlist (flat net))
  pub sources_keep_range : SourcesKeepRange (core_netlist (flat net))
  pub sound : IsAccepted (core_netlist (flat net)) → IsSound (flat net)

abbrev pub EachNetMeetsTheLaws : Type 0
EachNetMeetsTheLaws = (net : NetlistView) → IsNet net → MeetsTheLaws net
