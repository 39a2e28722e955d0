use Rattle.std.proofs.Common.{◌≡◌, drop, length}
use Rattle.rtl_eval.specs.Running.{assigned}
use Rattle.rtl_eval.proofs.assigning.assign_each.Given as goal

-- what is left, on what is done, gives the whole
abbrev pub invariant-loop-at : goal.invariant-loop-at
invariant-loop-at l = record {
  each_driver : length l.out.entries ≡ length l.initial.out.entries;
  whole : record (l.out) { entries = assigned (drop l.at l.places) (drop l.at l.codes) l.out.entries }
      ≡ record (l.initial.out) { entries = assigned l.places l.codes l.initial.out.entries };
}
