use Rattle.std.proofs.Common.{◌≡◌, ℕ, drop, length}
use Rattle.rtl_model.specs.simulation.Cycle.{with_changes}
use Rattle.rtl_kernel.specs.kernel.Simulation.{each_given}
use Rattle.rtl_kernel.proofs.starts.give_each.Given as goal

abbrev pub invariant-loop-number : goal.invariant-loop-number
invariant-loop-number l = record {
  as_many : length l.codes ≡ length l.initial.codes;
  rest : (m : ℕ) → with_changes (drop l.number (each_given l.nets l.values)) l.codes m ≡ with_changes (each_given l.nets l.values) l.initial.codes m;
}
