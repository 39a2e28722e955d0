use Rattle.std.proofs.Common.{◌<◌, ℕ, suc, get_or}
use Rattle.rtl_model.specs.basics.Lists.{IsLess}
use Rattle.rtl_model.specs.simulation.Netlist.{Edge}
use Rattle.rtl_model.specs.simulation.Report.{clock_key}
use Rattle.rtl_check.proofs.listed_clocks.rise.Given as goal

abbrev pub invariant-loop-k : goal.invariant-loop-k
invariant-loop-k l = (j : ℕ) (d : ℕ × Edge) → suc j < l.k → IsLess (clock_key (get_or l.clocks j d)) (clock_key (get_or l.clocks (suc j) d))
