-- What the nets of a netlist have: levels, or a loop.
use Rattle.std.specs.Prelude.{ℕ, ◌+◌, ◌<◌, ◌^◌, List}
use Rattle.rtl_model.specs.simulation.Netlist.{Netlist, Edge}
use Rattle.rtl_model.specs.simulation.Accepted.{HasNoNetLoop, IsByNets, IsNetLoop}
use Rattle.rtl_model.specs.simulation.NetLevels.{IsNetReport, bound_by_nets}
use Rattle.rtl_model.specs.simulation.Report.{AreClocks}
use Rattle.rtl_check_levels.specs.Rounds.{IsListedOnce}
use Rattle.rtl_check_nets.specs.declared.levels.NetLevels.{NetLevels}
use Rattle.rtl_check_nets.specs.declared.order.NetOrder.{NetOrder}
use Rattle.rtl_check_nets.specs.declared.order.NetOrder.TheVariants.{Leveled, Looped}

-- these are the levels of a report on the netlist, if it is judged by nets
abbrev pub AreReported : Netlist → NetLevels → Type 0
AreReported net l =
    (clocks : List (ℕ × Edge)) → IsByNets net → AreClocks net clocks
    → IsNetReport net l.levels.items l.from.items l.nets.items l.looks.items clocks (bound_by_nets net l.greatest)

-- There is no loop of nets, and they have these levels, which are few; or this is a loop of nets, listed once round
-- from its lowest net.
abbrev pub IsNetOrder : Netlist → NetOrder → Type 0
IsNetOrder net (Leveled levels) = HasNoNetLoop net × AreReported net levels × (levels.greatest + 1 < 2 ^ 32)
IsNetOrder net (Looped nets) = IsNetLoop net nets.items × IsListedOnce nets.items
