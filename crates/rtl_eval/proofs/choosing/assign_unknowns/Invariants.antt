use Rattle.std.proofs.Common.{◌≡◌, drop, replicate, length}
use Rattle.vhdl_values.specs.Scalar.{code_of}
use Rattle.vhdl_values.specs.declared.scalar.Nine.TheVariants.{X}
use Rattle.rtl_eval.specs.Running.{assigned}
use Rattle.rtl_net.specs.Indices.{numbers}
use Rattle.rtl_eval.proofs.choosing.assign_unknowns.Given as goal

-- what is left, on what is done, gives the whole
abbrev pub invariant-loop-at : goal.invariant-loop-at
invariant-loop-at l = record {
  each_driver : length l.out.entries ≡ length l.initial.out.entries;
  whole : record (l.out) { entries = assigned (drop l.at (numbers l.places)) (drop l.at (replicate (length (numbers l.places)) (code_of X))) l.out.entries }
      ≡ record (l.initial.out) { entries = assigned (numbers l.places) (replicate (length (numbers l.places)) (code_of X)) l.initial.out.entries };
}
