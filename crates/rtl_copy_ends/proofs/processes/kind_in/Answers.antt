use Rattle.std.proofs.Common.{subst, sym}
use Rattle.std.specs.List.Sorted.{IsStrictlyIncreasing}
use Rattle.rtl_copy_ends.proofs.processes.kind_in.Goals as goal

pub kind_of-requires : goal.kind_of-requires
kind_of-requires c = subst IsStrictlyIncreasing (sym c.inputs-inputs.ensures) c.is_elaborated.ensures.in_range.inputs_rise
