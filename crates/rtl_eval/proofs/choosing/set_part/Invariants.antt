use Rattle.std.proofs.Common.{◌≡◌, drop, take, map, length}
use Rattle.vhdl_values.specs.Scalar.{code_of}
use Rattle.rtl_model.specs.bodies.Variables.{values_put}
use Rattle.rtl_net.specs.Indices.{numbers}
use Rattle.rtl_eval.proofs.choosing.set_part.Given as goal

-- what is left, on what is done, gives the whole
abbrev pub invariant-loop-place : goal.invariant-loop-place
invariant-loop-place l = record {
  each_element : length l.out.variables ≡ length l.initial.out.variables;
  whole : record (l.out) { variables = values_put (drop l.place (take (length l.value) (drop l.at (numbers l.elements)))) (drop l.place (map code_of l.value)) l.out.variables }
      ≡ record (l.initial.out) { variables = values_put (take (length l.value) (drop l.at (numbers l.elements))) (map code_of l.value) l.initial.out.variables };
}
