use Rattle.rtl_eval.proofs.Lanes.{many_combined}
use Rattle.rtl_eval.proofs.assigning.assign_combined.Goals as goal

pub assign_made-requires-clause-made : goal.assign_made-requires-clause-made
assign_made-requires-clause-made c = many_combined c.args.logic c.args.left.now c.args.right.now c.requires.as_many
