use Rattle.std.proofs.Common.{map, take}
use Rattle.rtl_stim_lines.specs.View.{schedule_view, course_in, element_view}
use Rattle.rtl_stim.specs.Pushes.{AddsTo, KeepsTaken, element_pushes}
use Rattle.rtl_stim.proofs.filling.push_elements.Given as goal

-- the elements so far
abbrev pub invariant-loop-from_left : goal.invariant-loop-from_left
invariant-loop-from_left g l = KeepsTaken (g.A.Agenda.state l.initial.agenda) (g.A.Agenda.state l.agenda)
    × AddsTo (g.A.Agenda.state l.initial.agenda).waiting (g.A.Agenda.state l.agenda).waiting
    (element_pushes (course_in (schedule_view l.schedule) l.place) (map element_view (take l.from_left l.elements)) l.time)
