use Rattle.std.proofs.Common.{sym, ◌∙◌, arith}
use Rattle.std.proofs.lemmas.List.{take_all}
use Rattle.rtl_net_groups.proofs.Lanes.{are_same}
use Rattle.rtl_net_groups.proofs.comparing.is_one_other.Goals as goal

pub returns : goal.returns
returns c =
    let all = take_all c.loop-at.at c.args.old.now c.loop-at-test.false in
    let all_new = take_all c.loop-at.at c.args.new.now (omega (arith, c.loop-at-test.false, c.requires)) in
    are_same (sym all ∙ c.loop-at.invariant ∙ all_new)
