use Rattle.rtl_stim.proofs.Meeting.{searched_more}
use Rattle.rtl_stim.proofs.stimulus.Stimulus.first_time.Goals as goal

pub loop-clock-preserved : goal.loop-clock-preserved
loop-clock-preserved c =
    let told = c.edge_before-past.ensures in
    searched_more c.args.self.now c.args.clocks.now c.args.times.now c.args.last c.loop-clock.clock-index c.loop-clock.past c.edge_before-past.result c.loop-clock-test.true c.loop-clock.invariant told.later told.within told.edge told.none
