use Rattle.std.proofs.Common.{◌≡◌, drop, map}
use Rattle.rtl_stim_lines.specs.Times.{element_value}
use Rattle.rtl_stim_lines.specs.View.{course_in, element_view, schedule_view}
use Rattle.rtl_stim.proofs.stimulus.value_among.Given as goal

-- none of the elements so far has the net
abbrev pub invariant-loop-from_left : goal.invariant-loop-from_left
invariant-loop-from_left l = element_value (course_in (schedule_view l.schedule) l.place) 0 (map element_view l.elements) l.net l.time
    ≡ element_value (course_in (schedule_view l.schedule) l.place) l.from_left (map element_view (drop l.from_left l.elements)) l.net l.time
