use Rattle.std.proofs.Common.{◌≡◌, take, drop}
use Rattle.rtl_model.specs.bodies.Body.{followed_by}
use Rattle.rtl_net.specs.Bodies.{statements_of}
use Rattle.rtl_variable_registers.specs.Known.{at_start, with_constants}
use Rattle.rtl_kept_bodies.specs.Steps.{CanCompute}
use Rattle.rtl_kept_bodies.proofs.values.make_constants.Given as goal

-- the first statements are what they become, and the values of the others can be computed
abbrev pub invariant-loop-i : goal.invariant-loop-i
invariant-loop-i l = record {
  so_far : followed_by (statements_of (take l.i l.statements)) (with_constants (at_start l.out.variables) (statements_of (drop l.i l.statements)))
      ≡ with_constants (at_start l.starts) (statements_of l.initial.statements);
  can : CanCompute l.out.variables (statements_of (drop l.i l.statements));
}
