use Rattle.std.proofs.Common.{◌∙◌}
use Rattle.rtl_agenda.specs.MapState.{waiting_of}
use Rattle.rtl_agenda.specs.Wheel.{entries_of}
use Rattle.rtl_agenda.proofs.Ordering.{if_none}
use Rattle.rtl_agenda.proofs.Slots.{waiting_none}
use Rattle.rtl_agenda.proofs.Taking.{far_taken, far_taken_ahead, near_ahead, near_taken}
use Rattle.rtl_agenda.proofs.wheel.take_least.Goals as goal

pub returns-in-Some-clause-least : goal.returns-in-Some-clause-least
returns-in-Some-clause-least c =
    let near = c.args.near.now in
    let far = c.args.far.now in
    near_taken near.slots.items near.occupied.words.items (waiting_of far.times.entries) c.args.from c.in-Some.slot c.index.result.now (entries_of c.take.new.self.slots.items) c.take.new.taken.items near.ring c.requires
    c.in-Some.ensures.within c.index.ensures c.in-Some.ensures.filled c.in-Some.ensures.least c.take.ensures.rest far.in_order c.take.ensures.taken

pub returns-in-Some-clause-ahead : goal.returns-in-Some-clause-ahead
returns-in-Some-clause-ahead c =
    let near = c.args.near.now in
    near_ahead near.slots.items near.occupied.words.items (waiting_of c.args.far.now.times.entries) c.args.from c.in-Some.slot c.index.result.now (entries_of c.take.new.self.slots.items) c.take.new.taken.items near.ring c.requires
    c.in-Some.ensures.within c.index.ensures c.in-Some.ensures.filled c.in-Some.ensures.least c.take.ensures.rest

pub returns-in_err-time-clause-empty : goal.returns-in_err-time-clause-empty
returns-in_err-time-clause-empty c =
    if_none c.from_residual.result
    (waiting_none (waiting_of c.args.far.now.times.entries) (entries_of c.args.near.now.slots.items) c.in_default.ensures.none ∙ c.in_err-time.ensures.empty)

pub returns-clause-least : goal.returns-clause-least
returns-clause-least c =
    far_taken (waiting_of c.args.far.now.times.entries) (waiting_of c.take_first.new.self.times.entries) (entries_of c.args.near.now.slots.items) c.in_ok-time.time c.in_ok-time.changes.items c.in_default.ensures.none
    c.in_ok-time.ensures.first

pub returns-clause-ahead : goal.returns-clause-ahead
returns-clause-ahead c =
    far_taken_ahead (waiting_of c.args.far.now.times.entries) (waiting_of c.take_first.new.self.times.entries) (entries_of c.args.near.now.slots.items) c.in_ok-time.time c.in_ok-time.changes.items c.in_default.ensures.none
    c.in_ok-time.ensures.first c.args.far.now.in_order
