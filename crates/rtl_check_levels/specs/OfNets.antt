-- What a table and its levels are to a netlist of rtl_model.
use Rattle.std.specs.Prelude.{◌≡◌, ◌↔◌, ℕ, List, length, Option}
use Rattle.rtl_model.specs.simulation.Netlist.{Netlist, Edge, IsCombinational}
use Rattle.rtl_model.specs.simulation.Accepted as net
use Rattle.rtl_model.specs.simulation.Levels.{bound}
use Rattle.rtl_model.specs.simulation.Report.{AreClocks, IsReport}
use Rattle.rtl_check_levels.specs.Feeding.{Table, IsIn, Feeds}
use Rattle.rtl_check_levels.specs.Levels.{AreLevels}
use Rattle.rtl_check_levels.specs.Rounds.{IsRound}

-- The table of a netlist has its combinational processes, each with those that drive something it is sensitive to.
pub record IsTableOf (n : Netlist) (table : Table) : Type 0 where
  pub each_process : length table ≡ length n.processes
  pub combinational : (q : ℕ) → IsIn table q ↔ IsCombinational n q
  pub feeds : (p q : ℕ) → Feeds table p q ↔ net.Feeds n p q

-- Where a netlist's table has levels there is no loop, and they are those of a report on it, if it is judged by
-- processes.
abbrev pub LevelsAreOfNets : Type 0
LevelsAreOfNets =
    (n : Netlist) (table : Table) (levels from : List (Option ℕ)) (greatest : ℕ)
    → IsTableOf n table → AreLevels table levels from greatest
    → net.HasNoLoop n
    × ((clocks : List (ℕ × Edge)) → (net.IsByNets n → ⊥) → AreClocks n clocks
    → IsReport n levels from clocks (bound n greatest))

-- A loop of a netlist's table is a loop of the netlist.
abbrev pub RoundsAreLoops : Type 0
RoundsAreLoops =
    (n : Netlist) (table : Table) (round : List ℕ) → IsTableOf n table → IsRound table round → net.IsLoop n round
