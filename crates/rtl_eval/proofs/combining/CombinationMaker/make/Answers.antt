use Rattle.std.proofs.Common.{◌∙◌}
use Rattle.rtl_eval.proofs.Lanes.{many_combined}
use Rattle.rtl_eval.proofs.combining.CombinationMaker.make.Goals as goal

pub combine_from-requires-clause-room : goal.combine_from-requires-clause-room
combine_from-requires-clause-room c =
    let s = c.args.self.now in
    c.requires ∙ many_combined s.logic s.left.now s.right.now s.as_many

pub combine_digits-many-requires-clause-room : goal.combine_digits-many-requires-clause-room
combine_digits-many-requires-clause-room c =
    let s = c.args.self.now in
    c.requires ∙ many_combined s.logic s.left.now s.right.now s.as_many

pub combine_from-requires-then-many-self-clause-room : goal.combine_from-requires-then-many-self-clause-room
combine_from-requires-then-many-self-clause-room c = c.combine_digits-many.ensures.room
