use Rattle.std.proofs.Common.{below_more}
use Rattle.rtl_stim.specs.Quiet.{IsActiveAt}
use Rattle.rtl_stim.proofs.races.active_clock.Goals as goal

pub loop-clock-preserved : goal.loop-clock-preserved
loop-clock-preserved c =
    below_more (λ k. IsActiveAt c.args.stimulus.now c.args.clocks.now c.args.time k → ⊥) c.loop-clock.clock-index c.loop-clock.invariant
    (λ active.
    let test = c.edge.ensures.test in
    let before = c.value.ensures in
    let now = c.value-in-loop-clock.ensures in
    let off = c.if-edge.false in cc)
