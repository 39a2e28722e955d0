use Rattle.std.proofs.Common.{◌≡◌, ◌++◌, length, map}
use Rattle.rtlsim_findings.specs.Remarked.{remark_view, found_from, name}
use Rattle.rtlsim_findings.proofs.remarked.push_found.Given as goal

-- what was appended, and then what is left, are the whole
abbrev pub invariant-loop-left : goal.invariant-loop-left
invariant-loop-left l =
    map remark_view l.found.items ++ found_from l.net l.first.items l.before l.left
    ≡ map remark_view l.initial.found.items ++ found_from l.net (name l.net l.fn.begin) l.fn.begin l.remarks

abbrev pub decreases-loop-left : goal.decreases-loop-left
decreases-loop-left l = length l.left
