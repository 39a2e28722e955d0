use Rattle.std.proofs.Common.{◌<◌, ◌≡◌, ℕ, get_or}
use Rattle.rtl_model.specs.simulation.Netlist.{Edge}
use Rattle.rtl_net.specs.Core.{core}
use Rattle.rtl_check.specs.ListedClocks.{IsTested}
use Rattle.rtl_check.proofs.listed_clocks.are_tested.Given as goal

abbrev pub invariant-loop-k : goal.invariant-loop-k
invariant-loop-k l = (j n : ℕ) (edge : Edge) → j < l.k → get_or l.clocks j (n, edge) ≡ (n, edge) → IsTested (core l.net) n edge
