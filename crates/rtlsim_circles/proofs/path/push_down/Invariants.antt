use Rattle.std.proofs.Common.{◌≡◌, ◌++◌, length}
use Rattle.rtlsim_circles.specs.Paths.{steps_text}
use Rattle.rtlsim_circles.proofs.path.push_down.Given as goal

-- what was appended, and then the steps that are left, are the whole
abbrev pub invariant-loop-next : goal.invariant-loop-next
invariant-loop-next l =
    l.text.items ++ steps_text l.net l.looks l.room l.next
    ≡ l.initial.text.items ++ steps_text l.net l.looks (length l.looks) l.fn.from

abbrev pub decreases-loop-next : goal.decreases-loop-next
decreases-loop-next l = l.room
