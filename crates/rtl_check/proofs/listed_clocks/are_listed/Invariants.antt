use Rattle.std.proofs.Common.{◌<◌, ℕ, Contains}
use Rattle.rtl_model.specs.simulation.Netlist.{Edge, IsClockedBy}
use Rattle.rtl_net.specs.Core.{core}
use Rattle.rtl_check.proofs.listed_clocks.are_listed.Given as goal

abbrev pub invariant-loop-process : goal.invariant-loop-process
invariant-loop-process l = (p n : ℕ) (edge : Edge) → p < l.process → IsClockedBy (core l.net) p n edge → Contains l.clocks (n, edge)
