use Rattle.std.proofs.Common.{sym, ap, ◌∙◌}
use Rattle.std.proofs.lemmas.List.{at_drop_all}
use Rattle.rtl_net.specs.Core.{core}
use Rattle.rtl_check.specs.Standing as s
use Rattle.rtl_check.proofs.standing.highest_of.Goals as goal

pub with_sources-highest-requires : goal.with_sources-highest-requires
with_sources-highest-requires c = c.wakes_of-wakes.ensures.there c.loop-wake.wake-index 0 c.loop-wake-test.true

pub returns : goal.returns
returns c =
    let net = core c.args.net.now in
    let levels = c.args.levels.now in
    sym (at_drop_all (s.with_nets net levels c.loop-wake.highest) c.wakes_of-wakes.result.now c.loop-wake.wake-index c.loop-wake-test.false)
    ∙ (c.loop-wake.invariant ∙ ap (s.with_nets net levels s.no_highest) c.wakes_of-wakes.ensures.value)
