use Rattle.std.proofs.Common.{◌≡◌, length}
use Rattle.rtl_agenda.specs.MapState.{waiting_of}
use Rattle.rtl_agenda.specs.Wheel.{IsAhead, entries_of, waiting_in}
use Rattle.rtl_agenda.proofs.wheel.draw_near.Given as goal

abbrev pub invariant-loop-time : goal.invariant-loop-time
invariant-loop-time l = record {
  waiting : waiting_in (waiting_of l.far.times.entries) (entries_of l.near.slots.items) ≡ waiting_in (waiting_of l.fn.far.times.entries) (entries_of l.fn.near.slots.items);
  ahead : IsAhead (waiting_of l.far.times.entries) (entries_of l.near.slots.items) l.from;
}

abbrev pub decreases-loop-time : goal.decreases-loop-time
decreases-loop-time l = length (waiting_of l.far.times.entries)
