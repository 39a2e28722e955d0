use Rattle.std.proofs.Common.{◌≡◌, ◌++◌, map, take}
use Rattle.rtl_stim_lines.specs.View.{element_view, schedule_view, course_in}
use Rattle.rtl_stim.specs.Kept.{element_values}
use Rattle.rtl_stim.proofs.reading.push_values.Given as goal

-- the elements so far
abbrev pub invariant-loop-from_left : goal.invariant-loop-from_left
invariant-loop-from_left l = l.values.items ≡ l.initial.values.items
    ++ element_values (course_in (schedule_view l.schedule) l.place) 0 (map element_view (take l.from_left l.elements))
