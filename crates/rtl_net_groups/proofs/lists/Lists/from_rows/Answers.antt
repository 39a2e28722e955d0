use Rattle.std.proofs.Common.{[], ◌∷◌, ◌++◌, ap, sym, ◌∙◌}
use Rattle.std.proofs.lemmas.List.{take_all}
use Rattle.rtl_net_groups.specs.Lists.{rows}
use Rattle.rtl_net_groups.proofs.Listing.{rows_more}
use Rattle.rtl_net_groups.proofs.lists.Lists.from_rows.Goals as goal

pub loop-list-preserved : goal.loop-list-preserved
loop-list-preserved g c =
    c.in_ok-push.ensures.ok ∙ (λ j. c.loop-list.invariant j ++ c.as_slice.ensures.value j ∷ [])
    ∙ sym (rows_more c.args.lists.now c.loop-list.list-index c.list-item.result c.loop-list-test.true c.list-item.is)

pub returns : goal.returns
returns g c = c.loop-list.invariant ∙ ap rows (take_all c.loop-list.list-index c.args.lists.now c.loop-list-test.false)
