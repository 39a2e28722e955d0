use Rattle.std.proofs.Common.{◌≡◌, drop, replicate, length}
use Rattle.vhdl_values.specs.Scalar.{code_of}
use Rattle.vhdl_values.specs.declared.scalar.Nine.TheVariants.{X}
use Rattle.rtl_model.specs.bodies.Variables.{values_put}
use Rattle.rtl_net.specs.Indices.{numbers}
use Rattle.rtl_eval.proofs.choosing.set_unknowns.Given as goal

-- what is left, on what is done, gives the whole
abbrev pub invariant-loop-at : goal.invariant-loop-at
invariant-loop-at l = record {
  each_element : length l.out.variables ≡ length l.initial.out.variables;
  whole : record (l.out) { variables = values_put (drop l.at (numbers l.elements)) (drop l.at (replicate (length (numbers l.elements)) (code_of X))) l.out.variables }
      ≡ record (l.initial.out) { variables = values_put (numbers l.elements) (replicate (length (numbers l.elements)) (code_of X)) l.initial.out.variables };
}
