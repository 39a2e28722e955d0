use Rattle.std.specs.List.{range_with_len}
use Rattle.rtl_stim.specs.Pushes.{AddsTo, KeepsTaken, gathered, place_pushes}
use Rattle.rtl_stim.proofs.stimulus.Stimulus.load.Given as goal

-- the inputs so far
abbrev pub invariant-loop-place : goal.invariant-loop-place
invariant-loop-place g l = KeepsTaken (g.A.Agenda.state l.initial.agenda) (g.A.Agenda.state l.agenda)
    × AddsTo (g.A.Agenda.state l.initial.agenda).waiting (g.A.Agenda.state l.agenda).waiting (gathered (place_pushes l.self.inputs l.self.schedule 0) (range_with_len 0 l.place))
