use Rattle.std.proofs.Common.{◌+◌, not, ap, ◌∙◌}
use Rattle.rtl_net_groups.proofs.Lanes.{are_others, rest_alike, rest_tells, further_alike}
use Rattle.rtl_net_groups.proofs.comparing.are_any_other.Goals as goal

pub returns-in_default-alike_lanes : goal.returns-in_default-alike_lanes
returns-in_default-alike_lanes c =
    are_others _ _ (λ e. c.in_default-alike_lanes.ensures.otherwise (rest_alike c.in-Some.done c.args.old.now c.args.new.now e))

pub returns : goal.returns
returns c =
    let n = c.in-Some.done in
    let m = c.in-Some-alike_lanes.more in
    let old = c.args.old.now in
    let new = c.args.new.now in
    c.is_one_other-2.ensures ∙ ap not (rest_tells (n + m) old new (further_alike n m old new c.in-Some.ensures.alike c.in-Some-alike_lanes.ensures.alike))
