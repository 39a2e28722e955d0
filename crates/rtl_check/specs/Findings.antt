-- What the search finds of a netlist: faults, or levels.
use Rattle.std.specs.Prelude.{ℕ, ◌+◌, ◌<◌, ◌^◌, ◌⊎◌, List, [], map, Contains}
use Rattle.rtl_model.specs.simulation.Netlist.{Netlist}
use Rattle.rtl_model.specs.simulation.Accepted.{Fault, Loop, NetLoop, HasNoNetLoop, IsByNets}
use Rattle.rtl_model.specs.simulation.Faults.{AreFaults, AreFaultsButLoops}
use Rattle.rtl_check_levels.specs.declared.order.Levels.{Levels}
use Rattle.rtl_check_levels.specs.Feeding.{Table}
use Rattle.rtl_check_levels.specs.Levels as l
use Rattle.rtl_check_levels.specs.OfNets.{IsTableOf}
use Rattle.rtl_check_levels.specs.Rounds.{IsListedOnce}
use Rattle.rtl_check_nets.specs.declared.levels.NetLevels.{NetLevels}
use Rattle.rtl_check_nets.specs.NetOrders.{AreReported}
use Rattle.rtl_check.specs.declared.search.Found.{Found}
use Rattle.rtl_check.specs.declared.search.Found.TheVariants.{Faulty, Leveled, NetsLeveled}
use Rattle.rtl_check.specs.Views.{fault_view}

-- each loop among these faults is listed once round, from its lowest process or net
abbrev pub AreLoopsOnce : List Fault → Type 0
AreLoopsOnce faults =
    (round : List ℕ) → Contains faults (Loop round) ⊎ Contains faults (NetLoop round) → IsListedOnce round

-- no fault is found before loops are looked for, it isn't judged by nets, and its combinational processes have levels
pub record IsLeveled (net : Netlist) (levels : Levels) : Type 0 where
  pub no_fault : AreFaultsButLoops net []
  pub by_processes : IsByNets net → ⊥
  pub table : Table
  pub is_table : IsTableOf net table
  pub are_levels : l.AreLevels table levels.levels.items levels.from.items levels.greatest

-- no fault is found before loops are looked for, it is judged by nets, and no net depends on itself
pub record IsLeveledByNets (net : Netlist) (levels : NetLevels) : Type 0 where
  pub no_fault : AreFaultsButLoops net []
  pub by_nets : IsByNets net
  pub no_loop : HasNoNetLoop net
  pub are_levels : AreReported net levels
  pub few : levels.greatest + 1 < 2 ^ 32

abbrev pub IsFound : Netlist → Found → Type 0
IsFound net (Faulty faults) = AreFaults net (map fault_view faults.items) × AreLoopsOnce (map fault_view faults.items)
IsFound net (Leveled levels) = IsLeveled net levels
IsFound net (NetsLeveled levels) = IsLeveledByNets net levels
