use Rattle.std.proofs.Common.{sym, ap, ◌∙◌}
use Rattle.std.specs.List.{list_any}
use Rattle.rtl_body_facts.proofs.Anys.{any_end}
use Rattle.rtl_net.specs.Core.{core}
use Rattle.rtl_process_kinds.specs.Drivers as b
use Rattle.rtl_process_kinds.proofs.Sources.{any_here}
use Rattle.rtl_process_kinds.proofs.driven.follows_driver.Goals as goal

pub is_driven-requires : goal.is_driven-requires
is_driven-requires c = c.wakes_of-wakes.ensures.there c.loop-wake.wake-index 0 c.loop-wake-test.true

pub returns-then-is_driven : goal.returns-then-is_driven
returns-then-is_driven c =
    let driven = b.is_driven (core c.args.net.now) in
    sym (any_here driven c.wakes_of-wakes.result.now c.loop-wake.wake-index 0 c.loop-wake-test.true (sym c.is_driven.ensures ∙ c.if-is_driven.true))
    ∙ ap (list_any driven) c.wakes_of-wakes.ensures.value

pub returns : goal.returns
returns c =
    let driven = b.is_driven (core c.args.net.now) in
    any_end driven c.wakes_of-wakes.result.now c.loop-wake.wake-index c.loop-wake-test.false c.loop-wake.invariant ∙ ap (list_any driven) c.wakes_of-wakes.ensures.value
