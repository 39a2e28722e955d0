use Rattle.rtl_net_groups.proofs.Replaced.{other_of_three}
use Rattle.rtl_net_groups.proofs.slices.replace_long.Goals as goal

pub returns-clause-other : goal.returns-clause-other
returns-clause-other c =
    let A = c.replace_lanes-many.ensures in
    let B = c.replace_lanes-more.ensures in
    other_of_three c.args.values.now c.args.over.now _ _ c.replace_lanes-many.result c.replace_lanes-more.result _ _ _ A.other A.behind B.other B.grows B.behind c.replace_lanes-all.ensures.other
