use Rattle.std.proofs.Common.{ap, sym, ◌∙◌}
use Rattle.rtl_net.specs.Bodies.{value_view}
use Rattle.rtl_model.proofs.bodies.Leaves.{leaves_tell}
use Rattle.rtl_mixed_reasons.specs.Reasons.{head_of}
use Rattle.rtl_mixed_reasons.proofs.Branching.{told-first}
use Rattle.rtl_mixed_reasons.proofs.reads.first_read.Goals as goal

pub returns : goal.returns
returns c = told-first _ _ _ c.walk_value.ensures ∙ ap head_of (sym (leaves_tell.value_reads_are (value_view c.args.value.now)))
