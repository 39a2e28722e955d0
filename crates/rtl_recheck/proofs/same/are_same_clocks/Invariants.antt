use Rattle.std.specs.Prelude.{◌≡◌, ℕ, ◌<◌, slice_index_or}
use Rattle.rtl_model.specs.simulation.Netlist.{Edge, Rising}
use Rattle.rtl_recheck.proofs.same.are_same_clocks.Given as goal

abbrev pub invariant-loop-k : goal.invariant-loop-k
invariant-loop-k l = (j : ℕ) → j < l.k → slice_index_or l.ones j (0, Rising) ≡ slice_index_or l.others j (0, Rising)
