use Rattle.std.proofs.Common.{subst, sym}
use Rattle.std.specs.List.Sorted.{IsStrictlyIncreasing}
use Rattle.rtl_mixed_reasons.proofs.body.made_inside.Goals as goal

pub contains_rising-requires : goal.contains_rising-requires
contains_rising-requires c = subst IsStrictlyIncreasing (sym c.inputs-inputs.ensures) c.is_elaborated.ensures.in_range.inputs_rise
