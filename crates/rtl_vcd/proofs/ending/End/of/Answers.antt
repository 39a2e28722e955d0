use Rattle.std.proofs.Common.{ap, length, ◌∙◌}
use Rattle.std.proofs.lemmas.List.{take_at}
use Rattle.rtl_vcd.proofs.ending.End.of.Goals as goal

pub returns : goal.returns
returns c = take_at _ _ _ (ap length c.copy_from_slice.ensures.after) ∙ c.copy_from_slice.ensures.after
