use Rattle.std.proofs.Common.{ℕ, ◌-◌, ◌<◌, ◌≤◌}
use Rattle.std.specs.Prelude.{IsTrue}
use Rattle.rtl_stim_lines.specs.Courses.{is_busy}
use Rattle.rtl_stim_lines.specs.View.{course_view}
use Rattle.rtl_stim.specs.Quiet.{IsAmong}
use Rattle.rtl_stim.proofs.races.next_meeting.Given as goal

-- up to what was seen there is none
abbrev pub invariant-loop-busy : goal.invariant-loop-busy
invariant-loop-busy l = (l.now ≤ l.seen) × ((t : ℕ) → l.now < t → t ≤ l.seen → IsTrue (is_busy (course_view l.course) t) → IsAmong l.times t → ⊥)

abbrev pub decreases-loop-busy : goal.decreases-loop-busy
decreases-loop-busy l = l.last - l.seen
