use Rattle.std.proofs.Common.{arith}
use Rattle.std.proofs.lemmas.Grind.{common_steps}
use Rattle.std.proofs.lemmas.List.Elements.{filter_map-append}
use Rattle.rtl_copy_ends.proofs.inside.listed_clocks.Goals as goal

pub loop-kind-preserved : goal.loop-kind-preserved
loop-kind-preserved c = grind (arith, common_steps, filter_map-append)
