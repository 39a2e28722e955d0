use Rattle.std.proofs.Common.{◌≡◌, drop, length}
use Rattle.rtl_model.specs.bodies.Variables.{values_put}
use Rattle.rtl_net.specs.Indices.{numbers}
use Rattle.rtl_eval.proofs.assigning.set_codes.Given as goal

-- what is left, on what is done, gives the whole
abbrev pub invariant-loop-at : goal.invariant-loop-at
invariant-loop-at l = record {
  each_element : length l.out.variables ≡ length l.initial.out.variables;
  whole : record (l.out) { variables = values_put (drop l.at (numbers l.elements)) (drop l.at l.codes) l.out.variables }
      ≡ record (l.initial.out) { variables = values_put (numbers l.elements) l.codes l.initial.out.variables };
}
