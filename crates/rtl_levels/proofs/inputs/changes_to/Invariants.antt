use Rattle.std.proofs.Common.{◌≡◌, take}
use Rattle.rtl_kernel.specs.kernel.Simulation.{changes_of, each_given}
use Rattle.rtl_levels.proofs.inputs.changes_to.Given as goal

abbrev pub invariant-loop-number : goal.invariant-loop-number
invariant-loop-number l = changes_of l.changes.items ≡ take l.number (each_given l.nets l.given)
