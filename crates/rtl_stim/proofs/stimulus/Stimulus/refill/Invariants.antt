use Rattle.std.proofs.Common.{List, ℕ}
use Rattle.rtl_stim.specs.Pushes.{AddsTo, ArePlaces, KeepsTaken, gathered, place_pushes}
use Rattle.rtl_stim.proofs.stimulus.Stimulus.refill.Given as goal

-- the changes so far
abbrev pub invariant-loop-index : goal.invariant-loop-index
invariant-loop-index g l = KeepsTaken (g.A.Agenda.state l.initial.agenda) (g.A.Agenda.state l.agenda)
    × (places : List ℕ) × ArePlaces l.self.inputs (g.A.Agenda.state l.initial.agenda).taken l.index places
    × AddsTo (g.A.Agenda.state l.initial.agenda).waiting (g.A.Agenda.state l.agenda).waiting (gathered (place_pushes l.self.inputs l.self.schedule l.time) places)
