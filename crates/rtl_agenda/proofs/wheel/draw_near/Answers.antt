use Rattle.std.proofs.Common.{◌-◌, ◌<◌, length, arith, ◌∙◌}
use Rattle.std.proofs.lemmas.List.{length-map}
use Rattle.rtl_agenda.specs.MapState.{waiting_of}
use Rattle.rtl_agenda.specs.Wheel.{entries_of, entry_of}
use Rattle.rtl_agenda.proofs.Taking.{drawn_ahead, drawn_waiting, first_filled}
use Rattle.rtl_agenda.proofs.wheel.draw_near.Goals as goal

pub put-requires : goal.put-requires
put-requires c =
    first_filled (waiting_of c.loop-time.far.times.entries) (waiting_of c.take_near.new.self.times.entries) c.in-Some.time c.in-Some.changes.items c.in-Some.ensures.first c.loop-time.far.in_order

pub loop-time-preserved : goal.loop-time-preserved
loop-time-preserved c =
    let near = c.loop-time.near in
    let far = c.loop-time.far in
    let less : c.in-Some.time - c.args.from < length (entries_of near.slots.items) = omega (arith, c.in-Some.ensures.near, c.len.ensures, near.slots.ok.0, length-map near.slots.items entry_of) in
    record {
      waiting = drawn_waiting (waiting_of far.times.entries) (waiting_of c.take_near.new.self.times.entries) (entries_of near.slots.items) (entries_of c.put.new.self.slots.items) near.occupied.words.items c.args.from
          c.in-Some.time c.in-Some.changes.items near.ring far.in_order c.loop-time.invariant.ahead c.in-Some.ensures.first less c.put.ensures
          ∙ c.loop-time.invariant.waiting;
      ahead = drawn_ahead (waiting_of far.times.entries) (waiting_of c.take_near.new.self.times.entries) (entries_of near.slots.items) (entries_of c.put.new.self.slots.items) near.occupied.words.items c.args.from
          c.in-Some.time c.in-Some.changes.items near.ring far.in_order c.loop-time.invariant.ahead c.in-Some.ensures.first less c.put.ensures;
    }
